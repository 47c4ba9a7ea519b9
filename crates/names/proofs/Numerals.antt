-- The digits of a name write a number of 16 bits. Assumes nothing.
use Rattle.std.proofs.Common.{◌≡◌, ℕ, ◌^◌, ◌<◌, ◌≤◌, cond, ◌&&◌, ltb, List, length, Some, None, sym, ap, ◌∙◌, inl, inr, lit<, arith}
use native.Mathlib.Nat.{pow-le-pow_right}
use Rattle.std.proofs.lemmas.Bool.{cases_Bool, cond-true}
use Rattle.std.proofs.lemmas.Option.{cond_some}
use Rattle.text.specs.Chars.{digit, every}
use Rattle.text.specs.Digits.{number, number_end, number_of}
use Rattle.text.proofs.Numbers.{number_below, number_read}
use Rattle.names.specs.Names.{numeral, number_size}

pub numeral_read : (s : List ℕ) → length s ≤ number_size → number_of s ≡ numeral s
numeral_read s h =
    elim (cases_Bool (every digit s)) [
      | inl e ↦ number_read s e (omega arith) ∙ sym (cond-true (every digit s) _ None e)
      | inr e ↦ ap (λ b. cond (b && ltb (number s) number_end) (Some (number s)) None) e ∙ sym (ap (λ b. cond b (Some (number s)) None) e)
    ]

pub numeral_small : (s : List ℕ) (n : ℕ) → length s ≤ number_size → numeral s ≡ Some n → n < 2 ^ 16
numeral_small s n h e =
    let p = cond_some (every digit s) (number s) n e in
    let q = number_below s p.0 in
    let r : 10 ^ length s ≤ 10 ^ 4 = pow-le-pow_right (lit< tt) h in
    let m = p.1 in
    omega arith
