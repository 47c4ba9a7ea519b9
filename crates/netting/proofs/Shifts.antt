-- Writes to the positions and to the marks.
use Rattle.std.proofs.Common.{◌≡◌, ℕ, ◌<◌, ◌≤◌, Bool, true, false, cond, eqb, ◌⊎◌, List, length, get_or, set, ℤ, pos, ◌+ℤ◌, ◌-ℤ◌, Some, Option, refl, sym, ap, ◌∙◌, inl, inr, arith, length-set, replicate, ◌&&◌}
use Rattle.std.proofs.lemmas.Bool.Decides.{eqb_tells, nat_tests}
use Rattle.std.proofs.lemmas.Bool.{cases_eq, cases_lt, both_ways}
use Rattle.std.proofs.lemmas.Int.{ints}
use Rattle.std.proofs.lemmas.List.{get_or-set_same, get_or-set_other, get_or_past, get_or-replicate, length-replicate}
use Rattle.keeper.specs.Offers.{AllWithinLimit}
use Rattle.records.specs.Records.{record_at}
use Rattle.records.specs.declared.recorded.Record.{Record}
use Rattle.netting.specs.Sums.{sum_to}
use Rattle.netting.specs.Payments.{waiting, is_from, is_house, is_to, Listed}
use Rattle.netting.specs.Selections.{Selection, marked, share, position_of, Positions}
use Rattle.netting.specs.Steps.{Shifted, Without, InStep}
use Rattle.netting.proofs.Greatest.{share_without}
use Rattle.netting.proofs.Totals.{sum_to_none}
use Rattle.netting.proofs.Offers.{positions_sound}

-- one position is written: a is taken from it, and b is added
written : (xs : List ℤ) (i a b h : ℕ) (u : ℤ) → i < length xs → u +ℤ pos a ≡ get_or xs i (pos 0) +ℤ pos b
    → get_or (set xs i u) h (pos 0) +ℤ pos (cond (eqb i h) a 0) ≡ get_or xs h (pos 0) +ℤ pos (cond (eqb i h) b 0)
written xs i a b h u l e =
    elim (eqb_tells i h) [
      | inl t ↦ let s : get_or (set xs i u) h (pos 0) ≡ u = rw (← t.1) (get_or-set_same xs i u (pos 0) l) in
          let k : get_or xs i (pos 0) ≡ get_or xs h (pos 0) = ap (λ i. get_or xs i (pos 0)) t.1 in
          let m : cond (eqb i h) a 0 ≡ a = grind (arith, nat_tests) in
          let n : cond (eqb i h) b 0 ≡ b = grind (arith, nat_tests) in
          omega (arith, ints)
      | inr t ↦ let s = get_or-set_other xs i h u (pos 0) (λ q. t.1 (sym q)) in
          let m : cond (eqb i h) a 0 ≡ 0 = grind (arith, nat_tests) in
          let n : cond (eqb i h) b 0 ≡ 0 = grind (arith, nat_tests) in
          omega (arith, ints)
    ]

either_way : (b : Bool) (x : ℕ) → cond b x x ≡ x
either_way true x = refl
either_way false x = refl

pub shifted : (xs : List ℤ) (from to amount : ℕ) (u v : ℤ) → from < length xs → to < length xs
    → u ≡ get_or xs from (pos 0) -ℤ pos amount → v ≡ get_or (set xs from u) to (pos 0) +ℤ pos amount
    → Shifted xs from to amount (set (set xs from u) to v)
shifted xs from to amount u v lf lt eu ev =
    record {
      long = length-set (set xs from u) to v ∙ length-set xs from u;
      each = λ h.
          let a = written xs from amount 0 h u lf (omega (arith, ints)) in
          let b = written (set xs from u) to 0 amount h v (simp length-set lt) (omega (arith, ints)) in
          let m = either_way (eqb from h) 0 in
          let n = either_way (eqb to h) 0 in
          omega (arith, ints);
    }

-- what a set element is within
pub set_at : (xs : List ℤ) (i j : ℕ) (u : ℤ) → i < length xs → (get_or (set xs i u) j (pos 0) ≡ u) ⊎ (get_or (set xs i u) j (pos 0) ≡ get_or xs j (pos 0))
set_at xs i j u l =
    elim (cases_eq j i) [ inl e ↦ inl (rw e (get_or-set_same xs i u (pos 0) l)) | inr e ↦ inr (get_or-set_other xs i j u (pos 0) e) ]

pub unmark : (marks : List Bool) (p : ℕ) → p < length marks → Without (marked marks) p (marked (set marks p false))
unmark marks p l =
    record { gone = get_or-set_same marks p false false l; rest = λ i ne. get_or-set_other marks p i false false ne }

pub mark : (marks : List Bool) (p : ℕ) → get_or marks p false ≡ false → Without (marked (set marks p true)) p (marked marks)
mark marks p e = record { gone = e; rest = λ i ne. sym (get_or-set_other marks p i true false ne) }

module _ (rs : List Record) (S R : Selection) (n p t : ℕ) (xs ys : List ℤ) (l : p < length rs) (held : S p ≡ true) (out : Without S p R)
    (to : (record_at rs p).receiver ≡ Some t) where
  -- what the payment at p makes of one house's position
  turned : (h : ℕ) → position_of rs S h +ℤ pos (cond (eqb (record_at rs p).sender h) (record_at rs p).amount 0)
      ≡ position_of rs R h +ℤ pos (cond (eqb t h) (record_at rs p).amount 0)
  turned h =
      let a = share_without is_from rs S R h p l held out in
      let b = share_without is_to rs S R h p l held out in
      let g : cond (is_to (record_at rs p) h) (record_at rs p).amount 0 ≡ cond (eqb t h) (record_at rs p).amount 0 =
      ap (λ (o : Option ℕ). cond (is_house o h) (record_at rs p).amount 0) to in
      omega (arith, ints)

  pub positions_without : Positions rs S n xs → Shifted xs t (record_at rs p).sender (record_at rs p).amount ys → Positions rs R n ys
  positions_without at shift =
      record {
        long = shift.long ∙ at.long;
        each = λ h k. let a = turned h in let e = at.each h k in let f = shift.each h in omega (arith, ints);
      }

  pub positions_with : Positions rs R n xs → Shifted xs (record_at rs p).sender t (record_at rs p).amount ys → Positions rs S n ys
  positions_with at shift =
      record {
        long = shift.long ∙ at.long;
        each = λ h k. let a = turned h in let e = at.each h k in let f = shift.each h in omega (arith, ints);
      }

repeated : {X : Type 0} (n k : ℕ) (d : X) → get_or (replicate n d) k d ≡ d
repeated n k d =
    elim (cases_lt k n) [
      | inl l ↦ get_or-replicate n k d d l
      | inr l ↦ get_or_past (replicate n d) k d (simp length-replicate l)
    ]

no_share : (side : Record → ℕ → Bool) (rs : List Record) (S : Selection) (h : ℕ) → ((i : ℕ) → S i ≡ false)
    → sum_to (share side rs S h) (length rs) ≡ 0
no_share side rs S h none =
    sum_to_none (share side rs S h) (length rs)
    (λ i l. ap (λ (b : Bool). cond (b && side (record_at rs i) h) (record_at rs i).amount 0) (none i))

-- under no mark every position is 0
pub nothing : (rs : List Record) (m n : ℕ) → Listed n rs → length rs ≤ m → InStep (length (replicate n (pos 0))) rs (replicate m false) (replicate n (pos 0))
nothing rs m n listed long =
    let out : (i : ℕ) → marked (replicate m false) i ≡ false = λ i. repeated m i false in
    simp length-replicate (record {
      listed = listed;
      long = simp length-replicate long;
      only = λ i l held. absurd (both_ways (marked (replicate m false) i) (out i) held);
      at = record {
        long = length-replicate n (pos 0);
        each = λ h l.
            let a = no_share is_to rs (marked (replicate m false)) h out in
            let b = no_share is_from rs (marked (replicate m false)) h out in
            let e = repeated n h (pos 0) in
            omega (arith, ints);
      };
    })

pub entered : (rs : List Record) (marks : List Bool) (xs ys : List ℤ) (p t : ℕ) → InStep (length xs) rs marks xs → p < length rs
    → get_or marks p false ≡ false → waiting rs p ≡ true → (record_at rs p).receiver ≡ Some t → Shifted xs (record_at rs p).sender t (record_at rs p).amount ys
    → InStep (length ys) rs (set marks p true) ys
entered rs marks xs ys p t step l out w to shift =
    let long = step.long in
    rw shift.long (record {
      listed = step.listed;
      long = simp length-set step.long;
      only = λ i k s.
          elim (cases_eq i p) [
            | inl e ↦ ap (waiting rs) e ∙ w
            | inr e ↦ step.only i k (sym (get_or-set_other marks p i true false e) ∙ s)
          ];
      at = positions_with rs (marked (set marks p true)) (marked marks) (length xs) p t xs ys l
          (get_or-set_same marks p true false (omega arith)) (mark marks p out) to step.at shift;
    })

pub left : (rs : List Record) (marks : List Bool) (xs ys : List ℤ) (p t : ℕ) → InStep (length xs) rs marks xs → p < length rs
    → get_or marks p false ≡ true → (record_at rs p).receiver ≡ Some t → Shifted xs t (record_at rs p).sender (record_at rs p).amount ys
    → InStep (length ys) rs (set marks p false) ys
left rs marks xs ys p t step l held to shift =
    let long = step.long in
    rw shift.long (record {
      listed = step.listed;
      long = simp length-set step.long;
      only = λ i k s.
          elim (cases_eq i p) [
            | inl e ↦ absurd (both_ways (get_or (set marks p false) i false) (rw e (get_or-set_same marks p false false (omega arith))) s)
            | inr e ↦ step.only i k (sym (get_or-set_other marks p i false false e) ∙ s)
          ];
      at = positions_without rs (marked marks) (marked (set marks p false)) (length xs) p t xs ys l
          held (unmark marks p (omega arith)) to step.at shift;
    })

pub in_step_within : (n : ℕ) (rs : List Record) (marks : List Bool) (xs : List ℤ) → InStep n rs marks xs → AllWithinLimit xs
in_step_within n rs marks xs step = (positions_sound rs (marked marks) n xs step.listed step.only step.at).within
