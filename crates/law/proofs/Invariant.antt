-- What holds of a day after any calls.
use Rattle.std.proofs.Common.{◌≡◌, ℕ, ◌+◌, ◌<◌, ◌≤◌, Bool, true, false, cond, ◌||◌, ◌⊎◌, List, [], ◌∷◌, ◌++◌, map, length, get_or, take, sum_by, filter, MatchBool, sym, ap, ◌∙◌, inl, inr, arith}
use Rattle.std.proofs.lemmas.List.{length-map, length-append, take-append-le}
use Rattle.std.proofs.lemmas.List.Sums.{sum_by-cons}
use Rattle.std.proofs.lemmas.List.Folds.{list_any-append}
use Rattle.std.proofs.lemmas.Bool.{cases_Bool, both_ways, or_right, MatchBool-at_true, MatchBool-at_false}
use Rattle.netting.specs.Selections.{marked}
use Rattle.records.specs.declared.recorded.Record.{Record}
use Rattle.netting.proofs.Choice.{chosen_same}
use Rattle.law.specs.History.{Event, taken, settles, some_settles, control_of, messages_of, pay_in_for, over_taken, covers_paid_by, covers_paid_in}
use Rattle.law.specs.Laws.{settled_by, settled_to, as_handed_in, in_morning, Judged}

-- the law of the morning, along the events
abbrev pub MorningLaw : List ℕ → List Event → List Record → Type 0
MorningLaw opening [] records = Unit {0}
MorningLaw opening (e ∷ es) records =
    MatchBool (some_settles es) (MorningLaw opening es records) (MatchBool (settles e) (Judged opening es records) (Unit {0}))

-- before the morning's settlement
pub record Early (opening : List ℕ) (t : List Event) (rs : List Record) (cs : List ℕ) : Type 0 where
  pub none : some_settles t ≡ false
  pub covers : cs ≡ covers_paid_in opening t
  pub fresh : map as_handed_in rs ≡ rs
  pub count : over_taken messages_of t ≡ length rs

pub record Inv (opening : List ℕ) (t : List Event) (p : ℕ) (rs : List Record) (cs : List ℕ) : Type 0 where
  pub long : length cs ≡ length opening
  pub controls : over_taken control_of t ≡ sum_by (λ r. r.amount) rs
  pub paid : (h : ℕ) → h < length opening
      → get_or cs h 0 + settled_by h rs ≡ get_or opening h 0 + over_taken (pay_in_for h) t + settled_to h rs
  pub morning : MorningLaw opening t rs
  pub early : p ≤ 2 → Early opening t rs cs
  pub late : 3 ≤ p → some_settles t ≡ true

-- later records: what was settled in the morning stays so
pub record Grows (rs rs' : List Record) : Type 0 where
  pub more : List Record
  pub handed : map as_handed_in rs' ≡ map as_handed_in rs ++ more
  pub same : (i : ℕ) → get_or (map in_morning rs) i false ≡ get_or (map in_morning rs') i false

-- one call, other than the morning's settlement
pub record Advance (e : Event) (p : ℕ) (rs : List Record) (cs : List ℕ) (p' : ℕ) (rs' : List Record) (cs' : List ℕ) : Type 0 where
  pub long : length cs' ≡ length cs
  pub quiet : (settles e ≡ false) ⊎ (3 ≤ p)
  pub controls : sum_by (λ r. r.amount) rs' ≡ cond (taken e) (control_of e) 0 + sum_by (λ r. r.amount) rs
  pub paid : (h : ℕ) → h < length cs
      → get_or cs' h 0 + settled_by h rs' + settled_to h rs
      ≡ get_or cs h 0 + settled_by h rs + cond (taken e) (pay_in_for h e) 0 + settled_to h rs'
  pub grows : Grows rs rs'
  pub early : p' ≤ 2 → (p ≤ 2) × (settles e ≡ false) × (cs' ≡ covers_paid_by e cs)
      × (map as_handed_in rs ≡ rs → map as_handed_in rs' ≡ rs')
      × (length rs' ≡ cond (taken e) (messages_of e) 0 + length rs)
  pub late : 3 ≤ p' → 3 ≤ p

-- an event more
over_taken_cons : (f : Event → ℕ) (e : Event) (t : List Event) → over_taken f (e ∷ t) ≡ cond (taken e) (f e) 0 + over_taken f t
over_taken_cons f e t = elim (taken e) as (λ b. sum_by f (cond b (e ∷ filter taken t) (filter taken t)) ≡ cond b (f e) 0 + over_taken f t) [
  | true ↦ sum_by-cons f e (filter taken t)
  | false ↦ omega arith
]

when_map : {P P' Q Q' : Type 0} (b : Bool) → (P → P') → (Q → Q') → MatchBool b P Q → MatchBool b P' Q'
when_map true f g w = f w
when_map false f g w = g w

judged_grows : (opening : List ℕ) (t : List Event) (rs rs' : List Record) → Grows rs rs' → Judged opening t rs → Judged opening t rs'
judged_grows opening t rs rs' g j =
    let a : length (map as_handed_in rs') ≡ length rs' = length-map rs' as_handed_in in
    let b : length (map as_handed_in rs) ≡ length rs = length-map rs as_handed_in in
    let d : length (map as_handed_in rs') ≡ length (map as_handed_in rs) + length g.more = ap length g.handed ∙ length-append (map as_handed_in rs) g.more in
    let l : over_taken messages_of t ≤ length (map as_handed_in rs) = omega (arith, j.some) in
    let e : take (over_taken messages_of t) (map as_handed_in rs') ≡ take (over_taken messages_of t) (map as_handed_in rs) =
    ap (take (over_taken messages_of t)) g.handed ∙ take-append-le (over_taken messages_of t) (map as_handed_in rs) g.more l in
    record {
      some = omega (arith, j.some);
      chosen = rw e (chosen_same _ _ (marked (map in_morning rs)) (marked (map in_morning rs')) (λ i k. g.same i) j.chosen);
      later = λ i k. sym (g.same i) ∙ j.later i k;
    }

morning_grows : (opening : List ℕ) (t : List Event) (rs rs' : List Record) → Grows rs rs' → MorningLaw opening t rs → MorningLaw opening t rs'
morning_grows opening [] rs rs' g m = tt
morning_grows opening (e ∷ t) rs rs' g m =
    when_map (some_settles t) (morning_grows opening t rs rs' g) (when_map (settles e) (judged_grows opening t rs rs' g) (λ x. x)) m

pub morning_now : (opening : List ℕ) (e : Event) (t : List Event) (rs : List Record) → some_settles t ≡ false → settles e ≡ true
    → Judged opening t rs → MorningLaw opening (e ∷ t) rs
morning_now opening e t rs s q j = rw (s, q) j

pub advance : (opening : List ℕ) (e : Event) (t : List Event) (p : ℕ) (rs : List Record) (cs : List ℕ) (p' : ℕ) (rs' : List Record) (cs' : List ℕ)
    → Inv opening t p rs cs → Advance e p rs cs p' rs' cs' → Inv opening (e ∷ t) p' rs' cs'
advance opening e t p rs cs p' rs' cs' i a =
    record {
      long = a.long ∙ i.long;
      controls = omega (arith, over_taken_cons control_of e t, i.controls, a.controls);
      paid = λ h l. omega (arith, over_taken_cons (pay_in_for h) e t, i.paid h l, a.paid h (omega (arith, i.long)));
      morning =
          elim (cases_Bool (some_settles t)) [
            | inl s ↦ rw s (morning_grows opening t rs rs' a.grows i.morning)
            | inr s ↦ elim a.quiet [ inl q ↦ rw (s, q) tt | inr l ↦ absurd (both_ways (some_settles t) s (i.late l)) ]
          ];
      early = λ l.
          let x = a.early l in
          let y = i.early x.0 in
          record {
            none = ap (λ (b : Bool). b || some_settles t) x.1 ∙ y.none;
            covers = x.2 ∙ ap (covers_paid_by e) y.covers;
            fresh = x.3 y.fresh;
            count = omega (arith, over_taken_cons messages_of e t, y.count, x.4);
          };
      late = λ l. or_right (settles e) (some_settles t) (i.late (a.late l));
    }

settled_at : (later : List Event) (e : Event) (before : List Event) → settles e ≡ true → some_settles (later ++ e ∷ before) ≡ true
settled_at later e before s =
    list_any-append settles later (e ∷ before)
    ∙ or_right (some_settles later) (some_settles (e ∷ before)) (ap (λ (b : Bool). b || some_settles before) s)

-- wherever the earliest settlement stands
pub morning_at : (opening : List ℕ) (later : List Event) (e : Event) (before : List Event) (rs : List Record) → settles e ≡ true
    → some_settles before ≡ false → MorningLaw opening (later ++ e ∷ before) rs → Judged opening before rs
morning_at opening [] e before rs s n m =
    MatchBool-at_true (Judged opening before rs) (Unit {0}) s
    (MatchBool-at_false (MorningLaw opening before rs) (MatchBool (settles e) (Judged opening before rs) (Unit {0})) n m)
morning_at opening (x ∷ later) e before rs s n m =
    morning_at opening later e before rs s n
    (MatchBool-at_true (MorningLaw opening (later ++ e ∷ before) rs) (MatchBool (settles x) (Judged opening (later ++ e ∷ before) rs) (Unit {0}))
    (settled_at later e before s) m)
