-- Amounts of money: digits, one comma, and at most two digits more.
use Rattle.std.specs.Prelude.{◌≡◌, ℕ, ◌+◌, ◌-◌, ◌*◌, ◌/◌, ◌%◌, ◌^◌, ◌<◌, ◌≤◌, Bool, true, cond, ◌&&◌, ◌||◌, List, ◌∷◌, ◌++◌, length, take, drop, Some, None, Option, ◌==◌, nat_le, nat_lt, slice_index_or}
use Rattle.text.specs.Chars.{belongs, every, place}
use Rattle.text.specs.declared.class.Class.TheVariants.{Digit}
use Rattle.text.specs.Digits.{number}
use Rattle.values.specs.Digits.{digits, plain}

-- how long a written amount may be, the comma counted
abbrev pub longest : ℕ
longest = 15

-- how many digits may follow the comma
abbrev pub decimals : ℕ
decimals = 2

-- how many cents are one of the currency
abbrev pub unit : ℕ
unit = 100

-- the byte of a comma
abbrev pub comma : ℕ
comma = 44

-- the most cents that one message may move
abbrev pub limit : ℕ
limit = 1000000000

-- how many digits the limit has before its comma
abbrev pub whole_digits : ℕ
whole_digits = 8

-- a digit or a comma
abbrev pub amount_mark : ℕ → Bool
amount_mark c = belongs Digit c || c == comma

-- one digit or comma at least, and as many as an amount may have at most
abbrev pub amount_spelled : List ℕ → Bool
amount_spelled s = nat_le 1 (length s) && (nat_le (length s) longest && every amount_mark s)

-- before the first comma
abbrev pub whole : List ℕ → List ℕ
whole s = take (place comma s) s

-- after the first comma
abbrev pub part : List ℕ → List ℕ
part s = drop 1 (drop (place comma s) s)

-- before a comma stand digits, at least one
abbrev pub whole_formed : List ℕ → Bool
whole_formed w = nat_lt 0 (length w) && every (belongs Digit) w

-- after it stand digits, no more than may be
abbrev pub part_formed : List ℕ → Bool
part_formed p = nat_le (length p) decimals && every (belongs Digit) p

-- not too long, and with a comma between such digits
abbrev pub amount_formed : List ℕ → Bool
amount_formed s = nat_le (length s) longest && (nat_lt (place comma s) (length s) && (whole_formed (whole s) && part_formed (part s)))

-- what the digits after a comma are worth: the first counts ten cents
abbrev pub part_cents : List ℕ → ℕ
part_cents p = number p * 10 ^ (decimals - length p)

-- the cents of what stands before the comma and of what stands after it
abbrev pub cents : List ℕ → ℕ
cents s = number (whole s) * unit + part_cents (part s)

-- the amount that the characters write, in cents
abbrev pub amount_of : List ℕ → Option ℕ
amount_of s = cond (amount_formed s) (Some (cents s)) None

-- an amount and its value: digits, at least one; a comma; at most two digits; 15 characters in all
pub record IsAmount (s : List ℕ) (v : ℕ) : Type 0 where
  pub front : List ℕ
  pub back : List ℕ
  pub written : s ≡ front ++ comma ∷ back
  pub digital : (every (belongs Digit) front ≡ true) × (every (belongs Digit) back ≡ true)
  pub sizes : (0 < length front) × (length back ≤ decimals) × (length s ≤ longest)
  pub worth : v ≡ number front * unit + part_cents back

-- what is read is an amount and its value, and every amount is read
abbrev pub ReadingLaw : Type 0
ReadingLaw = (s : List ℕ) (v : ℕ) → (amount_of s ≡ Some v → IsAmount s v) × (IsAmount s v → amount_of s ≡ Some v)

-- an amount with two decimals and no needless zero in front
abbrev pub amount_text : ℕ → List ℕ
amount_text n = plain (digits whole_digits (n / unit)) ++ comma ∷ digits decimals (n % unit)

-- what is written for a sum: nothing for none, and nothing above the limit
abbrev pub writing : ℕ → Option (List ℕ)
writing n = cond (nat_lt 0 n && nat_le n limit) (Some (amount_text n)) None

-- a text as amounts are to be written: digits, at least one, and none of them a zero in front of another digit; a comma; two digits
pub record NeatlyWritten (s : List ℕ) : Type 0 where
  pub front : List ℕ
  pub back : List ℕ
  pub written : s ≡ front ++ comma ∷ back
  pub digital : (every (belongs Digit) front ≡ true) × (every (belongs Digit) back ≡ true)
  pub sizes : (0 < length front) × (length back ≡ decimals)
  pub lead : slice_index_or front 0 0 ≡ 48 → length front ≡ 1

-- a written amount is neat, and reads as what was written
abbrev pub WritingLaw : Type 0
WritingLaw = (n : ℕ) → n ≤ limit → NeatlyWritten (amount_text n) × (amount_of (amount_text n) ≡ Some n)
