-- The steps of the loop that writes digits from the last to the first. Assumes nothing.
use Rattle.std.proofs.Common.{◌≡◌, ℕ, ◌+◌, ◌-◌, ◌/◌, ◌%◌, ◌^◌, ◌<◌, List, ◌∷◌, length, drop, set, sym, ap, ◌∙◌, pow-suc, add-one, arith}
use native.Mathlib.Nat.{div-div-eq-div-mul}
use Rattle.std.proofs.lemmas.List.{drop-set}
use Rattle.values.specs.Digits.{digits}

pub tens_off : (r n i : ℕ) → r ≡ n / 10 ^ i → r / 10 ≡ n / 10 ^ (i + 1)
tens_off r n i e = ap (λ m. m / 10) e ∙ div-div-eq-div-mul n (10 ^ i) 10 ∙ ap (λ p. n / p) (sym (pow-suc 10 i)) ∙ ap (λ k. n / 10 ^ k) (sym (add-one i))

pub digits_more : (xs : List ℕ) (w i n r : ℕ) → length xs ≡ w → i < w → r ≡ n / 10 ^ i → drop (w - i) xs ≡ digits i n → drop (w - (i + 1)) (set xs (w - 1 - i) (48 + r % 10)) ≡ digits (i + 1) n
digits_more xs w i n r l h e d =
    let p : w - (i + 1) ≡ w - 1 - i = omega arith in
    let q : w - 1 - i + 1 ≡ w - i = omega arith in
    ap (λ k. drop k (set xs (w - 1 - i) (48 + r % 10))) p
    ∙ drop-set xs (w - 1 - i) (48 + r % 10) (omega arith)
    ∙ (λ j. (48 + e j % 10) ∷ drop (q j) xs) ∙ ap (λ t. (48 + n / 10 ^ i % 10) ∷ t) d ∙ ap (λ k. digits k n) (sym (add-one i))
