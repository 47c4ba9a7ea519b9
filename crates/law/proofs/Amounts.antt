-- What the calls do to the sums over the records.
use Rattle.std.proofs.Common.{◌≡◌, ℕ, zero, suc, ◌+◌, ◌<◌, Bool, true, false, cond, ◌&&◌, ◌||◌, List, [], ◌∷◌, ◌++◌, map, length, get_or, sum_by, sym, refl, ap, ◌∙◌, inl, inr, arith}
use Rattle.std.proofs.Math.Path.{fun_ext}
use Rattle.std.proofs.lemmas.Simd.{map-map}
use Rattle.std.proofs.lemmas.List.Folds.{fold-map}
use Rattle.std.proofs.lemmas.List.Sums.{sum_by-cons}
use Rattle.std.proofs.lemmas.Bool.{cases_Bool, cases_lt, and_parts}
use Rattle.std.proofs.lemmas.List.{get_or-map, get_or_past, length-map}
use Rattle.records.specs.Records.{record_at, blank}
use Rattle.day.proofs.Stores.{length_stamp, stamp_at}
use Rattle.records.specs.States.{waits, is_rejected, is_morning, is_settled, is_excluded}
use Rattle.records.specs.declared.recorded.Record.{Record}
use Rattle.records.specs.declared.state.State.{State}
use Rattle.records.specs.declared.state.State.TheVariants.{Rejected, Waiting, SettledMorning, SettledAfternoon, Excluded}
use Rattle.netting.specs.Sums.{sum_to}
use Rattle.netting.specs.Payments.{waiting, is_from, is_to}
use Rattle.netting.specs.Selections.{marked, share, Only}
use Rattle.netting.proofs.Totals.{sum_to_none}
use Rattle.day.specs.Changes.{in_state, put, stamp, settled_at_last, excluded_with}
use Rattle.law.specs.Runs.{Untouched}
use Rattle.law.specs.Laws.{in_morning, amounts, settled_side, as_handed_in}

-- a map that keeps what another sees
pub map_kept : {X Y : Type 0} (g : X → Y) (f : X → X) (xs : List X) → ((x : X) → g (f x) ≡ g x) → map g (map f xs) ≡ map g xs
map_kept g f xs h = map-map g f xs ∙ ap (λ k. map k xs) (fun_ext h)

sum_kept : {X : Type 0} (g : X → ℕ) (f : X → X) (xs : List X) → ((x : X) → g (f x) ≡ g x) → sum_by g (map f xs) ≡ sum_by g xs
sum_kept g f xs h = fold-map (λ n x. n + g x) f 0 xs ∙ ap (λ k. sum_by k xs) (fun_ext h)

-- the amounts are those rejected, waiting, settled and excluded
part : (a : ℕ) (s : State) → a ≡ cond (is_rejected s) a 0 + cond (waits s) a 0 + cond (is_settled s) a 0 + cond (is_excluded s) a 0
part a (Rejected c m f r) = omega arith
part a Waiting = omega arith
part a SettledMorning = omega arith
part a SettledAfternoon = omega arith
part a Excluded = omega arith

amounts-cons : (is : State → Bool) (r : Record) (rs : List Record) → amounts is (r ∷ rs) ≡ cond (is r.state) r.amount 0 + amounts is rs
amounts-cons is = sum_by-cons (λ r. cond (is r.state) r.amount 0)

pub by_state : (rs : List Record) → sum_by (λ r. r.amount) rs
    ≡ amounts is_rejected rs + amounts waits rs + amounts is_settled rs + amounts is_excluded rs
by_state [] = refl
by_state (r ∷ rs) =
    omega (arith, by_state rs, part r.amount r.state, sum_by-cons (λ r. r.amount) r rs, amounts-cons is_rejected r rs, amounts-cons waits r rs, amounts-cons is_settled r rs, amounts-cons is_excluded r rs)

sum_to_front : (f : ℕ → ℕ) (n : ℕ) → sum_to f (suc n) ≡ f 0 + sum_to (λ i. f (suc i)) n
sum_to_front f zero = omega arith
sum_to_front f (suc n) = let ih = sum_to_front f n in omega arith

is_waiting : (s : State) → waits s ≡ true → s ≡ Waiting
is_waiting (Rejected c m f r) w = cc
is_waiting Waiting w = refl
is_waiting SettledMorning w = cc
is_waiting SettledAfternoon w = cc
is_waiting Excluded w = cc

rejected_not_morning : (s : State) → is_rejected s ≡ true → is_morning s ≡ false
rejected_not_morning (Rejected c m f r) w = refl
rejected_not_morning Waiting w = refl
rejected_not_morning SettledMorning w = cc
rejected_not_morning SettledAfternoon w = refl
rejected_not_morning Excluded w = refl

-- a side of a record is not read from its state
abbrev pub Stateless : (Record → ℕ → Bool) → Type 0
Stateless side = (s : State) (r : Record) (h : ℕ) → side (in_state s r) h ≡ side r h

-- what one record counts on a side, once it is settled
abbrev settled_part : (Record → ℕ → Bool) → ℕ → Record → ℕ
settled_part side h r = cond (is_settled r.state && side r h) r.amount 0

-- one record that waits is settled, in the morning or in the afternoon
settled_one : (z : State) → is_settled z ≡ true → (side : Record → ℕ → Bool) → Stateless side → (h : ℕ) (b : Bool) (r : Record)
    → (b ≡ true → waits r.state ≡ true)
    → settled_part side h (put z b r) ≡ settled_part side h r + cond (b && side r h) r.amount 0
settled_one z is side keeps h true r w =
    let a : settled_part side h (in_state z r) ≡ cond (side r h) r.amount 0 = rw (is, keeps z r h) refl in
    let c : settled_part side h r ≡ 0 = ap (λ (x : State). cond (is_settled x && side r h) r.amount 0) (is_waiting r.state (w refl)) in
    omega arith
settled_one z is side keeps h false r w = omega arith

pub stamp_side : (side : Record → ℕ → Bool) → Stateless side → (h : ℕ) (bs : List Bool) (rs : List Record) → Only rs (marked bs)
    → settled_side side h (stamp bs rs) ≡ settled_side side h rs + sum_to (share side rs (marked bs) h) (length rs)
stamp_side side keeps h [] [] only = refl
stamp_side side keeps h (b ∷ bs) [] only = refl
stamp_side side keeps h [] (r ∷ rs) only =
    omega (arith, sum_to_none (share side (r ∷ rs) (marked []) h) (length (r ∷ rs)) (λ i l. refl))
stamp_side side keeps h (b ∷ bs) (r ∷ rs) only =
    let ih = stamp_side side keeps h bs rs (λ i l m. only (suc i) (omega arith) m) in
    let f = sum_to_front (share side (r ∷ rs) (marked (b ∷ bs)) h) (length rs) in
    let e = settled_one SettledMorning refl side keeps h b r (only 0 (omega arith)) in
    omega (arith, sum_by-cons (settled_part side h) r rs, sum_by-cons (settled_part side h) (put SettledMorning b r) (stamp bs rs))

pub rest_side : (side : Record → ℕ → Bool) → Stateless side → (h : ℕ) (rs : List Record)
    → settled_side side h (map settled_at_last rs) ≡ settled_side side h rs + sum_to (share side rs (waiting rs) h) (length rs)
rest_side side keeps h [] = refl
rest_side side keeps h (r ∷ rs) =
    let ih = rest_side side keeps h rs in
    let f = sum_to_front (share side (r ∷ rs) (waiting (r ∷ rs)) h) (length rs) in
    let e = settled_one SettledAfternoon refl side keeps h (waits r.state) r (λ w. w) in
    omega (arith, sum_by-cons (settled_part side h) r rs, sum_by-cons (settled_part side h) (settled_at_last r) (map settled_at_last rs))

-- no record's amount changes
pub on_amount : (z : State) (b : Bool) (r : Record) → (put z b r).amount ≡ r.amount
on_amount z true r = refl
on_amount z false r = refl

pub stamp_amount : (bs : List Bool) (rs : List Record) → sum_by (λ r. r.amount) (stamp bs rs) ≡ sum_by (λ r. r.amount) rs
stamp_amount [] rs = refl
stamp_amount (b ∷ bs) [] = refl
stamp_amount (b ∷ bs) (r ∷ rs) =
    omega (arith, stamp_amount bs rs, on_amount SettledMorning b r, sum_by-cons (λ r. r.amount) r rs, sum_by-cons (λ r. r.amount) (put SettledMorning b r) (stamp bs rs))

pub rest_amount : (rs : List Record) → sum_by (λ r. r.amount) (map settled_at_last rs) ≡ sum_by (λ r. r.amount) rs
rest_amount rs = sum_kept (λ r. r.amount) settled_at_last rs (λ r. on_amount SettledAfternoon (waits r.state) r)

-- whether a record is by or to the house q and waits
abbrev goes : ℕ → Record → Bool
goes q r = waits r.state && (is_from r q || is_to r q)

goes_waits : (q : ℕ) (r : Record) → goes q r ≡ true → waits r.state ≡ true
goes_waits q r e = (and_parts (waits r.state) _ e).0

pub excluded_amount : (q : ℕ) (rs : List Record) → sum_by (λ r. r.amount) (map (excluded_with q) rs) ≡ sum_by (λ r. r.amount) rs
excluded_amount q rs = sum_kept (λ r. r.amount) (excluded_with q) rs (λ r. on_amount Excluded (goes q r) r)

excluded_one : (side : Record → ℕ → Bool) (h : ℕ) (b : Bool) (r : Record) → (b ≡ true → waits r.state ≡ true)
    → settled_part side h (put Excluded b r) ≡ settled_part side h r
excluded_one side h true r w = ap (λ (x : State). cond (is_settled x && side r h) r.amount 0) (sym (is_waiting r.state (w refl)))
excluded_one side h false r w = refl

pub excluded_side : (side : Record → ℕ → Bool) (h q : ℕ) (rs : List Record) → settled_side side h (map (excluded_with q) rs) ≡ settled_side side h rs
excluded_side side h q rs = sum_kept (settled_part side h) (excluded_with q) rs (λ r. excluded_one side h (goes q r) r (goes_waits q r))

-- a record that waits goes on into a state that is not rejected: it was handed in as it was
on_handed : (z : State) → is_rejected z ≡ false → (b : Bool) (r : Record) → (b ≡ true → waits r.state ≡ true)
    → as_handed_in (put z b r) ≡ as_handed_in r
on_handed z e true r w = rw (e, is_waiting r.state (w refl)) refl
on_handed z e false r w = refl

pub stamp_handed : (bs : List Bool) (rs : List Record) → Only rs (marked bs) → map as_handed_in (stamp bs rs) ≡ map as_handed_in rs
stamp_handed [] rs only = refl
stamp_handed (b ∷ bs) [] only = refl
stamp_handed (b ∷ bs) (r ∷ rs) only =
    rw (on_handed SettledMorning refl b r (only 0 (omega arith)), stamp_handed bs rs (λ i l m. only (suc i) (omega arith) m)) refl

pub rest_handed : (r : Record) → as_handed_in (settled_at_last r) ≡ as_handed_in r
rest_handed r = on_handed SettledAfternoon refl (waits r.state) r (λ w. w)

pub excluded_handed : (q : ℕ) (r : Record) → as_handed_in (excluded_with q r) ≡ as_handed_in r
excluded_handed q r = on_handed Excluded refl (goes q r) r (goes_waits q r)

on_morning : (z : State) → is_morning z ≡ false → (b : Bool) (r : Record) → (b ≡ true → waits r.state ≡ true)
    → in_morning (put z b r) ≡ in_morning r
on_morning z e true r w = rw (e, is_waiting r.state (w refl)) refl
on_morning z e false r w = refl

pub rest_morning : (r : Record) → in_morning (settled_at_last r) ≡ in_morning r
rest_morning r = on_morning SettledAfternoon refl (waits r.state) r (λ w. w)

pub excluded_morning : (q : ℕ) (r : Record) → in_morning (excluded_with q r) ≡ in_morning r
excluded_morning q r = on_morning Excluded refl (goes q r) r (goes_waits q r)

-- what is as it was handed in is not settled in the morning
fresh_not_morning : (r : Record) → as_handed_in r ≡ r → in_morning r ≡ false
fresh_not_morning r e =
    elim (cases_Bool (is_rejected r.state)) [
      | inl a ↦ rejected_not_morning r.state a
      | inr a ↦ ap in_morning (sym e) ∙ ap (λ (x : Bool). in_morning (cond x r (in_state Waiting r))) a
    ]

fresh_at : (rs : List Record) → map as_handed_in rs ≡ rs → (i : ℕ) → i < length rs → in_morning (record_at rs i) ≡ false
fresh_at rs fresh i l =
    fresh_not_morning (record_at rs i) (sym (get_or-map as_handed_in rs i blank blank l) ∙ ap (λ (xs : List Record). record_at xs i) fresh)

stamped_morning : (b : Bool) (r : Record) → in_morning r ≡ false → in_morning (put SettledMorning b r) ≡ b
stamped_morning true r e = refl
stamped_morning false r e = e

pub stamp_morning : (bs : List Bool) (rs : List Record) → map as_handed_in rs ≡ rs → (i : ℕ) → i < length rs
    → get_or bs i false ≡ get_or (map in_morning (stamp bs rs)) i false
stamp_morning bs rs fresh i l =
    sym (get_or-map in_morning (stamp bs rs) i blank false (omega (arith, length_stamp bs rs)) ∙ ap in_morning (stamp_at bs rs i l)
    ∙ stamped_morning (get_or bs i false) (record_at rs i) (fresh_at rs fresh i l))

-- records of which none is settled or excluded
untouched_rest : (r : Record) (new : List Record) → Untouched (r ∷ new) → Untouched new
untouched_rest r new un i l = un (suc i) (omega arith)

pub new_side : (side : Record → ℕ → Bool) (h : ℕ) (new : List Record) → Untouched new → settled_side side h new ≡ 0
new_side side h [] un = refl
new_side side h (r ∷ new) un =
    let z : settled_part side h r ≡ 0 = ap (λ (x : Bool). cond (x && side r h) r.amount 0) (un 0 (omega arith)).0 in
    omega (arith, new_side side h new (untouched_rest r new un), sum_by-cons (settled_part side h) r new)

untouched_handed : (r : Record) (s : State) → r.state ≡ s → is_settled s ≡ false → is_excluded s ≡ false → as_handed_in r ≡ r
untouched_handed r (Rejected c m f w) e a b = ap (λ (x : State). cond (is_rejected x) r (in_state Waiting r)) e
untouched_handed r Waiting e a b = ap (λ (x : State). cond (is_rejected x) r (in_state Waiting r)) e ∙ ap (λ (x : State). in_state x r) (sym e)
untouched_handed r SettledMorning e a b = cc
untouched_handed r SettledAfternoon e a b = cc
untouched_handed r Excluded e a b = cc

pub new_handed : (new : List Record) → Untouched new → map as_handed_in new ≡ new
new_handed [] un = refl
new_handed (r ∷ new) un =
    let o = un 0 (omega arith) in
    rw (untouched_handed r r.state refl o.0 o.1, new_handed new (untouched_rest r new un)) refl

none_morning : (new : List Record) → map as_handed_in new ≡ new → (i : ℕ) → false ≡ get_or (map in_morning new) i false
none_morning new fresh i =
    elim (cases_lt i (length new)) [
      | inl l ↦ sym (get_or-map in_morning new i blank false l ∙ fresh_at new fresh i l)
      | inr l ↦ sym (get_or_past (map in_morning new) i false (omega (arith, length-map new in_morning)))
    ]

pub new_morning : (rs new : List Record) → Untouched new → (i : ℕ)
    → get_or (map in_morning rs) i false ≡ get_or (map in_morning (rs ++ new)) i false
new_morning [] new un i = none_morning new (new_handed new un) i
new_morning (r ∷ rs) new un zero = refl
new_morning (r ∷ rs) new un (suc i) = new_morning rs new un i
