-- The words on bytes that are tested one by one are the library's. Assumes nothing.
use Rattle.std.proofs.Common.{◌≡◌, ℕ, suc, Bool, cond, not, List, length, position, unwrap_or, eqb, refl, ap, arith}
use Rattle.std.specs.List.{prefix_len, position_or_len}
use Rattle.std.proofs.lemmas.List.Sums.{prefix_len-le-length}
use Rattle.std.proofs.lemmas.List.Recursion.{same_from_clauses, is_position_or_len}
use Rattle.text.specs.Chars.{place, leading}

pub leading_is : (p : ℕ → Bool) (xs : List ℕ) → leading p xs ≡ prefix_len p xs
leading_is p = same_from_clauses (leading p) (prefix_len p) (λ x n. cond (p x) (suc n) 0) refl (λ x xs. refl) (λ x xs. ap (λ n. cond (p x) n 0) (omega arith))

pub place_is : (c : ℕ) (xs : List ℕ) → place c xs ≡ position_or_len (λ x. eqb x c) xs
place_is c = is_position_or_len (place c) (λ x. eqb x c) refl (λ x xs. refl)

pub place_found : (c : ℕ) (xs : List ℕ) → unwrap_or (position (λ x. eqb x c) xs) (length xs) ≡ place c xs
place_found c xs =
    let le = prefix_len-le-length (λ x. not (eqb x c)) xs in
    grind (arith, place_is, le)
