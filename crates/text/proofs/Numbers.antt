-- The number that digits write: the steps of the loop that reads it, its bound and its last digit. Assumes nothing.
use Rattle.std.proofs.Common.{◌≡◌, ℕ, suc, ◌+◌, ◌-◌, ◌*◌, ◌^◌, ◌<◌, ◌≤◌, true, cond, ◌&&◌, leb, ltb, List, [], ◌∷◌, ◌++◌, length, get_or, drop, Some, None, Option, refl, ap, ◌∙◌, pow-suc, mul_assoc, subst, lit<, arith}
use Rattle.std.proofs.lemmas.List.{at_drop_more, at_drop_all}
use native.Mathlib.Nat.{pow-le-pow_right}
use Rattle.std.proofs.lemmas.Bool.{and_parts, and_from, leb-true, and_right, le-ltb, lt-ltb}
use Rattle.text.specs.Chars.{digit, every}
use Rattle.text.specs.Digits.{number_after, number, number_end, number_of}

-- what is read from the bytes behind digits that write n
abbrev pub read_after : ℕ → List ℕ → Option ℕ
read_after n ds = cond (every digit ds && ltb (number_after n ds) number_end) (Some (number_after n ds)) None

pub number_grows : (n : ℕ) (ds : List ℕ) → n ≤ number_after n ds
number_grows n [] = omega arith
number_grows n (d ∷ ds) = let h = number_grows (n * 10 + (d - 48)) ds in omega arith

pub read_over : (n : ℕ) (s : List ℕ) (i : ℕ) → i < length s → number_end ≤ n * 10 + (get_or s i 0 - 48) → read_after n (drop i s) ≡ None
read_over n s i h big =
    let m = n * 10 + (get_or s i 0 - 48) in
    let t = drop (i + 1) s in
    let g : m ≤ number_after m t = number_grows m t in
    at_drop_more (read_after n) s i 0 h ∙ ap (λ b. cond b (Some (number_after m t)) None) (and_right (every digit (get_or s i 0 ∷ t)) (ltb (number_after m t) number_end) (le-ltb _ _ (omega arith)))

pub read_end : (n : ℕ) (s : List ℕ) (i : ℕ) → length s ≤ i → n < number_end → read_after n (drop i s) ≡ Some n
read_end n s i h small = at_drop_all (read_after n) s i h ∙ ap (λ b. cond b (Some n) None) (lt-ltb _ _ small)

-- one digit more behind digits
pub number_snoc : (n : ℕ) (s : List ℕ) (d : ℕ) → number_after n (s ++ d ∷ []) ≡ number_after n s * 10 + (d - 48)
number_snoc n [] d = refl
number_snoc n (b ∷ s) d = number_snoc (n * 10 + (b - 48)) s d

ten_more : (k : ℕ) → 10 * 10 ^ k ≡ 10 ^ suc k
ten_more k = rw pow-suc (omega arith)

-- k digits behind a number below m write one below m times 10 to the k
pub number_under : (n m : ℕ) (s : List ℕ) → n < m → every digit s ≡ true → number_after n s < m * 10 ^ length s
number_under n m [] h e = omega arith
number_under n m (b ∷ s) h e =
    let p = and_parts (digit b) (every digit s) e in
    let q = number_under (n * 10 + (b - 48)) (m * 10) s (omega (arith, leb-true b 57 (and_parts (leb 48 b) (leb b 57) p.0).1)) p.1 in
    subst (λ k. number_after (n * 10 + (b - 48)) s < k) (mul_assoc m 10 (10 ^ length s) ∙ ap (λ k. m * k) (ten_more (length s))) q

pub number_below : (s : List ℕ) → every digit s ≡ true → number s < 10 ^ length s
number_below s e = let h = number_under 0 1 s (lit< tt) e in omega arith

-- up to 19 digits always write a number of 64 bits
pub number_read : (s : List ℕ) → every digit s ≡ true → length s ≤ 19 → number_of s ≡ Some (number s)
number_read s e h =
    let p = number_below s e in
    let q : 10 ^ length s ≤ 10 ^ 19 = pow-le-pow_right (lit< tt) h in
    ap (λ b. cond b (Some (number s)) None) (and_from (every digit s) (ltb (number s) number_end) e (lt-ltb _ _ (omega arith)))
