-- Each call keeps what holds of a day.
use Rattle.std.proofs.Common.{◌≡◌, ℕ, ◌+◌, ◌<◌, Bool, false, cond, eqb, ◌⊎◌, List, [], ◌∷◌, ◌++◌, map, length, get_or, take, set, sum_by, Ok, Err, sym, refl, ap, ◌∙◌, inl, inr, arith}
use Rattle.std.proofs.lemmas.List.Sums.{sum_by-append}
use Rattle.std.proofs.lemmas.Bool.Decides.{eqb_tells}
use Rattle.std.proofs.lemmas.List.{length-map, length-append, length-set, map-append, append-nil, take_all, get_or_past, get_or-set_same, get_or-set_other}
use Rattle.std.proofs.lemmas.Bool.{and_right, cond-false}
use Rattle.records.specs.declared.recorded.Record.{Record}
use Rattle.netting.specs.Payments.{waiting, is_from, is_to}
use Rattle.netting.specs.Selections.{marked, sent, received, Chosen}
use Rattle.netting.specs.Outcomes.{Booked, Morning}
use Rattle.netting.proofs.Choice.{greatest_is_chosen, chosen_same}
use Rattle.day.specs.Changes.{stamp, settled_at_last, excluded_with}
use Rattle.day.proofs.Stores.{length_stamp}
use Rattle.law.specs.History.{Event, handed_in, calculated, settled, excluded, paid_in, taken, settles, is_settle, control_of, messages_of, pay_in_for, over_taken, covers_paid_by}
use Rattle.law.specs.Runs.{Untouched}
use Rattle.law.specs.Laws.{settled_by, settled_to, as_handed_in, in_morning, Judged, Kept}
use Rattle.law.proofs.Amounts.{Stateless, by_state, stamp_side, stamp_amount, stamp_handed, stamp_morning, rest_side, map_kept, rest_handed, rest_morning, rest_amount, excluded_handed, excluded_morning, excluded_amount, excluded_side, new_side, new_handed, new_morning}
use Rattle.law.proofs.Invariant.{Early, Inv, Grows, Advance, morning_now, morning_at}

from_stateless : Stateless is_from
from_stateless s r h = refl

to_stateless : Stateless is_to
to_stateless s r h = refl

grows_same : (rs : List Record) → Grows rs rs
grows_same rs = record { more = []; handed = sym (append-nil (map as_handed_in rs)); same = λ i. refl }

grows_map : (f : Record → Record) (rs : List Record) → ((r : Record) → as_handed_in (f r) ≡ as_handed_in r)
    → ((r : Record) → in_morning (f r) ≡ in_morning r) → Grows rs (map f rs)
grows_map f rs h m =
    record {
      more = [];
      handed = map_kept as_handed_in f rs h ∙ sym (append-nil (map as_handed_in rs));
      same = λ i. ap (λ (xs : List Bool). get_or xs i false) (sym (map_kept in_morning f rs m));
    }

paid_denied : (e : Event) (cs : List ℕ) → taken e ≡ false → cs ≡ covers_paid_by e cs
paid_denied (handed_in control messages number) cs d = refl
paid_denied (calculated r) cs d = refl
paid_denied (settled r) cs d = refl
paid_denied (excluded place r) cs d = refl
paid_denied (paid_in place amount (Ok done)) cs d = cc
paid_denied (paid_in place amount (Err denial)) cs d = refl

-- a call that is denied
pub denied : (e : Event) (p : ℕ) (rs : List Record) (cs : List ℕ) → taken e ≡ false → Advance e p rs cs p rs cs
denied e p rs cs d =
    let q : settles e ≡ false = and_right (is_settle e) (taken e) d in
    record {
      long = refl;
      quiet = inl q;
      controls = let z = cond-false (taken e) (control_of e) 0 d in omega arith;
      paid = λ h l. let z = cond-false (taken e) (pay_in_for h e) 0 d in omega arith;
      grows = grows_same rs;
      early = λ l. (l, q, paid_denied e cs d, (λ x. x), (let z = cond-false (taken e) (messages_of e) 0 d in omega arith));
      late = λ l. l;
    }

-- a file that is accepted
pub accepted : (control messages p : ℕ) (new rs : List Record) (cs : List ℕ) → length new ≡ messages
    → sum_by (λ r. r.amount) new ≡ control → Untouched new → Advance (handed_in control messages 0) p rs cs p (rs ++ new) cs
accepted control messages p new rs cs count total un =
    record {
      long = refl;
      quiet = inl refl;
      controls = let x = sum_by-append (λ r. r.amount) rs new in omega arith;
      paid = λ h l.
          let x : settled_by h (rs ++ new) ≡ settled_by h rs + settled_by h new = sum_by-append _ rs new in
          let y : settled_by h new ≡ 0 = new_side is_from h new un in
          let u : settled_to h (rs ++ new) ≡ settled_to h rs + settled_to h new = sum_by-append _ rs new in
          let v : settled_to h new ≡ 0 = new_side is_to h new un in
          omega arith;
      grows = record {
        more = map as_handed_in new;
        handed = map-append as_handed_in rs new;
        same = new_morning rs new un;
      };
      early = λ l. (
        l,
        refl,
        refl,
        (λ f. rw (map-append as_handed_in rs new, f, new_handed new un) refl),
        (let x = length-append rs new in omega arith),
      );
      late = λ l. l;
    }

pub collected : (p : ℕ) (rs : List Record) (cs : List ℕ) → (p ≡ 1) ⊎ (p ≡ 3)
    → Advance (calculated (Ok tt)) p rs cs (p + 1) rs cs
collected p rs cs which =
    record {
      long = refl;
      quiet = inl refl;
      controls = omega arith;
      paid = λ h l. omega arith;
      grows = grows_same rs;
      early = λ l. (omega arith, refl, refl, (λ x. x), omega arith);
      late = λ l. elim which [ inl e ↦ absurd (omega arith) | inr e ↦ omega arith ];
    }

set_gain : (xs : List ℕ) (q n h : ℕ) → h < length xs → get_or (set xs q (get_or xs q 0 + n)) h 0 ≡ get_or xs h 0 + cond (eqb q h) n 0
set_gain xs q n h l =
    elim (eqb_tells q h) [
      | inl e ↦ rw (e.0, e.1) (get_or-set_same xs h (get_or xs h 0 + n) 0 l)
      | inr e ↦ rw (e.0, get_or-set_other xs q h (get_or xs q 0 + n) 0 (λ x. e.1 (sym x))) (omega arith)
    ]

pub cover_paid : (q a p : ℕ) (rs : List Record) (cs : List ℕ) → Advance (paid_in q a (Ok tt)) p rs cs p rs (set cs q (get_or cs q 0 + a))
cover_paid q a p rs cs =
    record {
      long = length-set cs q _;
      quiet = inl refl;
      controls = omega arith;
      paid = λ h l. let g = set_gain cs q a h l in omega arith;
      grows = grows_same rs;
      early = λ l. (l, refl, refl, (λ x. x), omega arith);
      late = λ l. l;
    }

pub left_out : (q p : ℕ) (rs : List Record) (cs : List ℕ) → p ≡ 4
    → Advance (excluded q (Ok tt)) p rs cs p (map (excluded_with q) rs) cs
left_out q p rs cs four =
    record {
      long = refl;
      quiet = inl refl;
      controls = let e = excluded_amount q rs in omega arith;
      paid = λ h l.
          let x : settled_by h (map (excluded_with q) rs) ≡ settled_by h rs = excluded_side is_from h q rs in
          let y : settled_to h (map (excluded_with q) rs) ≡ settled_to h rs = excluded_side is_to h q rs in
          omega arith;
      grows = grows_map (excluded_with q) rs (excluded_handed q) (excluded_morning q);
      early = λ l. absurd (omega arith);
      late = λ l. l;
    }

pub rest : (p : ℕ) (rs : List Record) (cs : List ℕ) (n : ℕ) (cs' : List ℕ) (n' : ℕ) → p ≡ 4 → Booked rs (waiting rs) cs n cs' n'
    → Advance (settled (Ok tt)) p rs cs 5 (map settled_at_last rs) cs'
rest p rs cs n cs' n' four s =
    record {
      long = s.houses;
      quiet = inr (omega arith);
      controls = let e = rest_amount rs in omega arith;
      paid = λ h l.
          let x : settled_by h (map settled_at_last rs) ≡ settled_by h rs + sent rs (waiting rs) h = rest_side is_from from_stateless h rs in
          let y : settled_to h (map settled_at_last rs) ≡ settled_to h rs + received rs (waiting rs) h = rest_side is_to to_stateless h rs in
          let z = s.covers h l in
          omega arith;
      grows = grows_map settled_at_last rs rest_handed rest_morning;
      early = λ l. absurd (omega arith);
      late = λ l. omega arith;
    }

-- the morning's settlement
judged : (opening : List ℕ) (t : List Event) (rs : List Record) (marks : List Bool) (cs : List ℕ) (n : ℕ) (cs' : List ℕ) (n' : ℕ)
    → Early opening t rs cs → Morning rs marks cs n cs' n' → Judged opening t (stamp marks rs)
judged opening t rs marks cs n cs' n' y s =
    let c = y.count in
    let m = length_stamp marks rs in
    let k : length (map in_morning (stamp marks rs)) ≡ length (stamp marks rs) = length-map (stamp marks rs) in_morning in
    let e : map as_handed_in (stamp marks rs) ≡ rs = stamp_handed marks rs s.greatest.admissible.only ∙ y.fresh in
    let f : take (over_taken messages_of t) (map as_handed_in (stamp marks rs)) ≡ rs =
    ap (take (over_taken messages_of t)) e ∙ take_all (over_taken messages_of t) rs (omega arith) in
    let g : Chosen rs cs (marked (map in_morning (stamp marks rs))) =
    chosen_same rs cs (marked marks) (marked (map in_morning (stamp marks rs))) (stamp_morning marks rs y.fresh)
    (greatest_is_chosen rs cs (marked marks) s.greatest) in
    record {
      some = omega arith;
      chosen = rw (f, ← y.covers) g;
      later = λ i l. get_or_past (map in_morning (stamp marks rs)) i false (omega arith);
    }

pub morning_settled : (opening : List ℕ) (t : List Event) (p : ℕ) (rs : List Record) (marks : List Bool) (cs : List ℕ) (n : ℕ) (cs' : List ℕ) (n' : ℕ)
    → Inv opening t p rs cs → p ≡ 2 → Morning rs marks cs n cs' n' → Inv opening (settled (Ok tt) ∷ t) 3 (stamp marks rs) cs'
morning_settled opening t p rs marks cs n cs' n' i two s =
    let y = i.early (omega arith) in
    let only = s.greatest.admissible.only in
    record {
      long = s.booked.houses ∙ i.long;
      controls = let e = stamp_amount marks rs in let f = i.controls in omega arith;
      paid = λ h l.
          let k = i.long in
          let x : settled_by h (stamp marks rs) ≡ settled_by h rs + sent rs (marked marks) h = stamp_side is_from from_stateless h marks rs only in
          let u : settled_to h (stamp marks rs) ≡ settled_to h rs + received rs (marked marks) h = stamp_side is_to to_stateless h marks rs only in
          let z = s.booked.covers h (omega arith) in
          let v = i.paid h l in
          omega arith;
      morning = morning_now opening (settled (Ok tt)) t (stamp marks rs) y.none refl (judged opening t rs marks cs n cs' n' y s);
      early = λ l. absurd (omega arith);
      late = λ l. refl;
    }

-- at the opening
pub opened : (opening : List ℕ) → Inv opening [] 1 [] opening
opened opening =
    record {
      long = refl;
      controls = refl;
      paid = λ h l. omega arith;
      morning = tt;
      early = λ l. record { none = refl; covers = refl; fresh = refl; count = refl };
      late = λ l. absurd (omega arith);
    }

-- and so the laws hold
pub kept : (opening : List ℕ) (t : List Event) (p : ℕ) (rs : List Record) (cs : List ℕ) → Inv opening t p rs cs → Kept opening t rs cs
kept opening t p rs cs i =
    record {
      morning = λ later before e q s n. morning_at opening later e before rs s n (rw (← q) i.morning);
      controls = i.controls ∙ by_state rs;
      houses = i.long;
      cover = i.paid;
    }
