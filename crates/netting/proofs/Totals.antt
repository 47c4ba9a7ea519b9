-- Laws of sum_to.
use Rattle.std.proofs.Common.{◌≡◌, ℕ, zero, suc, ◌+◌, ◌*◌, ◌<◌, ◌≤◌, cond, eqb, refl, ap, ◌∙◌, inl, inr, suc-mul, arith}
use Rattle.std.proofs.lemmas.Bool.Decides.{nat_tests}
use Rattle.std.proofs.lemmas.Bool.{cases_eq}
use Rattle.netting.specs.Sums.{sum_to}

pub sum_to_le : (f g : ℕ → ℕ) (n : ℕ) → ((i : ℕ) → i < n → f i ≤ g i) → sum_to f n ≤ sum_to g n
sum_to_le f g zero h = omega arith
sum_to_le f g (suc n) h =
    let ih = sum_to_le f g n (λ i k. h i (omega arith)) in
    let at = h n (omega arith) in omega arith

pub sum_to_same : (f g : ℕ → ℕ) (n : ℕ) → ((i : ℕ) → i < n → f i ≡ g i) → sum_to f n ≡ sum_to g n
sum_to_same f g zero h = refl
sum_to_same f g (suc n) h =
    let ih = sum_to_same f g n (λ i k. h i (omega arith)) in
    let at = h n (omega arith) in omega arith

pub sum_to_none : (f : ℕ → ℕ) (n : ℕ) → ((i : ℕ) → i < n → f i ≡ 0) → sum_to f n ≡ 0
sum_to_none f zero h = refl
sum_to_none f (suc n) h =
    let ih = sum_to_none f n (λ i k. h i (omega arith)) in
    let at = h n (omega arith) in omega arith

pub sum_to_bound : (f : ℕ → ℕ) (m n : ℕ) → ((i : ℕ) → i < n → f i ≤ m) → sum_to f n ≤ n * m
sum_to_bound f m zero h = omega arith
sum_to_bound f m (suc n) h =
    let ih = sum_to_bound f m n (λ i k. h i (omega arith)) in
    let at = h n (omega arith) in
    let e = suc-mul n m in omega arith

pub sum_to_plus : (f g : ℕ → ℕ) (n : ℕ) → sum_to (λ i. f i + g i) n ≡ sum_to f n + sum_to g n
sum_to_plus f g zero = refl
sum_to_plus f g (suc n) = let ih = sum_to_plus f g n in omega arith

-- the sum by rows is the sum by columns
pub sum_to_swap : (f : ℕ → ℕ → ℕ) (m n : ℕ) → sum_to (λ h. sum_to (f h) n) m ≡ sum_to (λ i. sum_to (λ h. f h i) m) n
sum_to_swap f m zero = sum_to_none (λ h. 0) m (λ i k. refl)
sum_to_swap f m (suc n) =
    sum_to_plus (λ h. sum_to (f h) n) (λ h. f h n) m ∙ ap (λ x. x + sum_to (λ h. f h n) m) (sum_to_swap f m n)

-- f is g but for d more at p
pub sum_to_but : (f g : ℕ → ℕ) (p d n : ℕ) → p < n → f p ≡ g p + d → ((i : ℕ) → i < n → (i ≡ p → ⊥) → f i ≡ g i)
    → sum_to f n ≡ sum_to g n + d
sum_to_but f g p d zero l e h = absurd (omega arith)
sum_to_but f g p d (suc n) l e h =
    elim (cases_eq n p) [
      | inl q ↦ let s = sum_to_same f g n (λ i k. h i (omega arith) (λ r. omega arith)) in
          let t : f n ≡ g n + d = rw q e in omega arith
      | inr q ↦ let ih = sum_to_but f g p d n (omega arith) e (λ i k. h i (omega arith)) in
          let at = h n (omega arith) q in omega arith
    ]

-- of the numbers below n only s is s
pub sum_to_one : (s a n : ℕ) → s < n → sum_to (λ h. cond (eqb s h) a 0) n ≡ a
sum_to_one s a n l =
    let z = sum_to_none (λ h. 0) n (λ i k. refl) in
    let here : cond (eqb s s) a 0 ≡ 0 + a = grind (arith, nat_tests) in
    let e = sum_to_but (λ h. cond (eqb s h) a 0) (λ h. 0) s a n l here (λ i k ne. grind (arith, nat_tests)) in
    omega arith
