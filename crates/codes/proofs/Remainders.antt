-- Remainders by 97 of what characters write. Assumes nothing.
use Rattle.std.proofs.Common.{◌≡◌, ℕ, ◌+◌, ◌*◌, ◌/◌, ◌%◌, ◌<◌, List, [], ◌∷◌, ◌++◌, length, get_or, take, sym, refl, ap, ◌∙◌, mul_assoc, add-mul, arith}
use native.Mathlib.Nat.{div-add-mod, add-mul-mod_self_left, mod-mod}
use Rattle.std.proofs.lemmas.List.Sums.{fold_more}
use Rattle.codes.specs.Accounts.{char_scale, char_value, written_after}

-- what has been divided by 97 may be divided before
mod_step : (n s v : ℕ) → (n % 97 * s + v) % 97 ≡ (n * s + v) % 97
mod_step n s v =
    let q : 97 * (n / 97) + n % 97 ≡ n = div-add-mod n 97 in
    let e : n * s ≡ 97 * (n / 97 * s) + n % 97 * s = ap (λ m. m * s) (sym q) ∙ add-mul (97 * (n / 97)) (n % 97) s ∙ ap (λ m. m + n % 97 * s) (mul_assoc 97 (n / 97) s) in
    let f : n * s + v ≡ (n % 97 * s + v) + 97 * (n / 97 * s) = omega arith in
    sym (ap (λ m. m % 97) f ∙ add-mul-mod_self_left (n % 97 * s + v) 97 (n / 97 * s))

-- the remainder of what start and then the bytes write, from that of start
written_mod : (n : ℕ) (cs : List ℕ) → written_after (n % 97) cs % 97 ≡ written_after n cs % 97
written_mod n [] = mod-mod n 97
written_mod n (c ∷ cs) =
    sym (written_mod (n % 97 * char_scale c + char_value c) cs) ∙ ap (λ m. written_after m cs % 97) (mod_step n (char_scale c) (char_value c)) ∙ written_mod (n * char_scale c + char_value c) cs

written_append : (n : ℕ) (xs ys : List ℕ) → written_after n (xs ++ ys) ≡ written_after (written_after n xs) ys
written_append n [] ys = refl
written_append n (x ∷ xs) ys = written_append (n * char_scale x + char_value x) xs ys

written_more : (n : ℕ) (xs : List ℕ) (i : ℕ) → i < length xs → written_after n (take (i + 1) xs) ≡ written_after n (take i xs) * char_scale (get_or xs i 0) + char_value (get_or xs i 0)
written_more n xs i h = fold_more (λ n c. n * char_scale c + char_value c) n xs i 0 h

pub remainder_more : (n : ℕ) (xs : List ℕ) (i r s v : ℕ) → i < length xs → r ≡ written_after n (take i xs) % 97 → s ≡ char_scale (get_or xs i 0) → v ≡ char_value (get_or xs i 0)
    → (r * s + v) % 97 ≡ written_after n (take (i + 1) xs) % 97
remainder_more n xs i r s v h e f g =
    ap (λ m. (m * s + v) % 97) e ∙ mod_step (written_after n (take i xs)) s v
    ∙ ap (λ m. (written_after n (take i xs) * m + v) % 97) f ∙ ap (λ m. (written_after n (take i xs) * char_scale (get_or xs i 0) + m) % 97) g
    ∙ ap (λ m. m % 97) (sym (written_more n xs i h))

pub written_twice : (n : ℕ) (x y x' y' : List ℕ) → n ≡ written_after 0 x % 97 → x ≡ x' → y ≡ y' → written_after n y % 97 ≡ written_after 0 (x' ++ y') % 97
written_twice n x y x' y' e f g =
    ap (λ m. written_after m y % 97) e ∙ written_mod (written_after 0 x) y ∙ ap (λ m. m % 97) (sym (written_append 0 x y)) ∙ (λ i. written_after 0 (f i ++ g i) % 97)
