-- The numbers that the digits of an amount write. Assumes nothing.
use Rattle.std.proofs.Common.{◌≡◌, ℕ, ◌^◌, ◌<◌, ◌≤◌, Bool, true, false, cond, ◌&&◌, ltb, leb, List, length, Some, None, Option, IfSome, refl, sym, ap, ◌∙◌, subst, inl, inr, lit<, arith}
use native.Mathlib.Nat.{pow-le-pow_right}
use Rattle.std.proofs.lemmas.Bool.{cases_Bool, and_left, lt-ltb}
use Rattle.text.specs.Chars.{every, digit}
use Rattle.text.specs.Digits.{number, number_end, number_of}
use Rattle.text.proofs.Numbers.{number_below, number_read}
use Rattle.values.specs.Amounts.{whole_formed, part_formed, part_cents}

-- so few digits always write a number of 64 bits
number_short : (s : List ℕ) → length s ≤ 15 → number_of s ≡ cond (every digit s) (Some (number s)) None
number_short s h =
    elim (cases_Bool (every digit s)) [
      | inl e ↦ number_read s e (omega arith) ∙ sym (ap (λ b. cond b (Some (number s)) None) e)
      | inr e ↦ ap (λ b. cond b (Some (number s)) None) (and_left (every digit s) (ltb (number s) number_end) e ∙ sym e)
    ]

number_small : (s : List ℕ) (k : ℕ) → length s ≤ k → every digit s ≡ true → number s < 10 ^ k
number_small s k h e =
    let p = number_below s e in
    let q : 10 ^ length s ≤ 10 ^ k = pow-le-pow_right (lit< tt) h in
    omega arith

small_if : (b : Bool) (n m : ℕ) → (b ≡ true → n < m) → IfSome (cond b (Some n) None) (λ n. n < m)
small_if true n m f = f refl
small_if false n m f = tt

pub whole_is : (s : List ℕ) → 0 < length s → length s ≤ 15 → number_of s ≡ cond (whole_formed s) (Some (number s)) None
whole_is s p h = number_short s h ∙ ap (λ b. cond (b && every digit s) (Some (number s)) None) (sym (lt-ltb 0 (length s) p))

-- a number that so few digits write is small
pub read_small : (s : List ℕ) (k : ℕ) (r : Option ℕ) → r ≡ number_of s → length s ≤ k → k ≤ 15 → IfSome r (λ n. n < 10 ^ k)
read_small s k r e h few = subst (λ o. IfSome o (λ n. n < 10 ^ k)) (sym (e ∙ number_short s (omega arith))) (small_if (every digit s) (number s) (10 ^ k) (number_small s k h))

read_by : (b : Bool) (n m k : ℕ) → cond b (Some n) None ≡ Some m → (b ≡ true → n < k) → m < k
read_by true n m k e f =
    let q : n ≡ m = cc in
    let g = f refl in
    omega arith
read_by false n m k e f =
    let z : ◌≡◌ {A = ℕ} 0 1 = cc in
    absurd (omega arith)

pub part_read : (s : List ℕ) (n : ℕ) → number_of s ≡ Some n → length s ≤ 2 → n < 100
part_read s n e h = read_by (every digit s) (number s) n 100 (sym (number_short s (omega arith)) ∙ e) (number_small s 2 h)

none_by : (b c : Bool) (n m : ℕ) → cond b (Some n) None ≡ None → cond (c && b) (Some m) None ≡ None
none_by true c n m e = let z : ◌≡◌ {A = ℕ} 0 1 = cc in absurd (omega arith)
none_by false true n m e = refl
none_by false false n m e = refl

pub part_none : (s : List ℕ) → number_of s ≡ None → length s ≤ 2 → cond (part_formed s) (Some (part_cents s)) None ≡ None
part_none s e h = none_by (every digit s) (leb (length s) 2) (number s) (part_cents s) (sym (number_short s (omega arith)) ∙ e)
