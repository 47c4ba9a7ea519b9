-- Where a listed number stands, and the numbers after one more. Assumes nothing.
use Rattle.std.proofs.Common.{◌≡◌, ℕ, zero, suc, ◌+◌, ◌-◌, ◌<◌, ◌≤◌, true, eqb, List, [], ◌∷◌, length, get_or, ◌∙◌, subst, ⊎_elim, not-suc-le-zero, eq-or-lt_of_le, arith}
use Rattle.std.specs.List.{insert}
use Rattle.std.proofs.lemmas.Bool.{false≢true, eqb-true, eq-eqb, or_cases, or_left, or_right, cases_lt}
use Rattle.std.proofs.lemmas.List.Edits.{length-insert, get_or-insert_below, get_or-insert_at, get_or-insert_above}
use Rattle.index.specs.Order.{listed}

pub stands : (ns : List ℕ) (n i : ℕ) → i < length ns → get_or ns i 0 ≡ n → listed ns n ≡ true
stands [] n i h e = absurd (not-suc-le-zero h)
stands (m ∷ ms) n zero h e = or_left (eqb m n) (listed ms n) (eq-eqb m n e)
stands (m ∷ ms) n (suc i) h e = or_right (eqb m n) (listed ms n) (stands ms n i (omega arith) e)

pub standing : (ns : List ℕ) (n : ℕ) → listed ns n ≡ true → (i : ℕ) × (i < length ns) × (get_or ns i 0 ≡ n)
standing [] n h = absurd (false≢true h)
standing (m ∷ ms) n h = ⊎_elim
    (λ here. (0, omega arith, eqb-true m n here))
    (λ later. let at = standing ms n later in (suc at.0, omega (arith, at.1), at.2))
    (or_cases (eqb m n) (listed ms n) h)

-- one number more, at p
module _ (ns : List ℕ) (p n : ℕ) (place : p ≤ length ns) where
  -- a place among the new numbers is one below p, p itself, or one above
  pub places : (P : ℕ → Type 0) → ((i : ℕ) → i < p → P i) → P p → ((i : ℕ) → p ≤ i → i < length ns → P (i + 1)) → (i : ℕ) → i < length (insert ns p n) → P i
  places P below here above i h =
      let size : length (insert ns p n) ≡ length ns + 1 = length-insert ns p n place in
      ⊎_elim
      (λ lt. below i lt)
      (λ ge. ⊎_elim
      (λ e. subst P e here)
      (λ gt.
      let back : i - 1 + 1 ≡ i = omega arith in
      subst P back (above (i - 1) (omega arith) (omega arith)))
      (eq-or-lt_of_le ge))
      (cases_lt i p)

  pub listed_new : listed (insert ns p n) n ≡ true
  listed_new =
      let size : length (insert ns p n) ≡ length ns + 1 = length-insert ns p n place in
      stands (insert ns p n) n p (omega arith) (get_or-insert_at ns p n 0 place)

  pub listed_old : (m : ℕ) → listed ns m ≡ true → listed (insert ns p n) m ≡ true
  listed_old m h =
      let at = standing ns m h in
      let i : ℕ = at.0 in
      let within : i < length ns = at.1 in
      let size : length (insert ns p n) ≡ length ns + 1 = length-insert ns p n place in
      ⊎_elim
      (λ lt. stands (insert ns p n) m i (omega arith) (get_or-insert_below ns p n 0 i lt place ∙ at.2))
      (λ ge. stands (insert ns p n) m (i + 1) (omega arith) (get_or-insert_above ns p n 0 i ge place ∙ at.2))
      (cases_lt i p)
