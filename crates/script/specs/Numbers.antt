-- Numbers as words write them: decimal digits, and a minus in front where a number may be below nothing.
use Rattle.std.specs.Prelude.{ℕ, ◌^◌, Bool, cond, ◌&&◌, List, [], ◌∷◌, length, ℤ, pos, neg_ℤ, Ok, Err, Result, ◌==◌, nat_le, nat_lt}
use Rattle.text.specs.Digits as digits
use Rattle.text.specs.Digits.{number}
use Rattle.script.specs.declared.command.LineError.{LineError}
use Rattle.script.specs.declared.command.LineError.TheVariants.{BadNumber}
use Rattle.script.specs.Outcomes.{and_then}

-- signed numbers lie below this, and from its negative on
abbrev pub signed_end : ℕ
signed_end = 2 ^ 63

-- at least one digit, nothing else, and not too large
abbrev pub is_number : List ℕ → Bool
is_number w = nat_lt 0 (length w) && digits.is_number w

-- the number of a word
abbrev pub number_of : List ℕ → Result ℕ LineError
number_of w = cond (is_number w) (Ok (number w)) (Err BadNumber)

-- the number n, and n below nothing, within signed 64 bits
abbrev pub plus : ℕ → Result ℤ LineError
plus n = cond (nat_lt n signed_end) (Ok (pos n)) (Err BadNumber)

abbrev pub minus : ℕ → Result ℤ LineError
minus n = cond (nat_le n signed_end) (Ok (neg_ℤ (pos n))) (Err BadNumber)

-- the sign
abbrev pub minus_sign : ℕ
minus_sign = 45

-- the number of a word that may have a minus in front
abbrev pub signed_of : List ℕ → Result ℤ LineError
signed_of [] = Err BadNumber
signed_of (b ∷ t) = cond (b == minus_sign) (and_then (number_of t) minus) (and_then (number_of (b ∷ t)) plus)
