-- Numbers and the decimal digits that write them; 48 is the byte of the digit 0.
use Rattle.std.specs.Prelude.{ℕ, ◌+◌, ◌-◌, ◌*◌, ◌^◌, Bool, cond, ◌&&◌, List, Some, None, Option, fold, nat_lt}
use Rattle.text.specs.Chars.{digit, every}

-- what digits write behind digits that write n
abbrev pub number_after : ℕ → List ℕ → ℕ
number_after n ds = fold (λ n d. n * 10 + (d - 48)) n ds

-- the number that the digits write
abbrev pub number : List ℕ → ℕ
number ds = number_after 0 ds

-- numbers of 64 bits lie below this
abbrev pub number_end : ℕ
number_end = 2 ^ 64

-- nothing but digits, and not too large
abbrev pub is_number : List ℕ → Bool
is_number s = every digit s && nat_lt (number s) number_end

-- the number that the bytes write, if they do
abbrev pub number_of : List ℕ → Option ℕ
number_of s = cond (is_number s) (Some (number s)) None
