-- The value of a payment: its date, its currency and its amount, in one row.
use Rattle.std.specs.Prelude.{ℕ, Bool, true, false, cond, not, ◌&&◌, List, [], ◌∷◌, take, drop, Some, None, Option, Result, ◌==◌, nat_lt, slice_index_or}
use Rattle.std.specs.Str.{bytes_eq}
use Rattle.faults.specs.declared.code.Code.TheVariants.{F06, T09, T10, T11, T29}
use Rattle.faults.specs.declared.code.Fault.{Fault}
use Rattle.text.specs.Chars.{belongs, every}
use Rattle.text.specs.declared.class.Class.TheVariants.{Digit, Capital}
use Rattle.values.specs.Amounts.{amount_spelled, amount_of, limit}
use Rattle.fields.specs.Faults.{when, first_fault, answer}
use Rattle.fields.specs.Shapes.{Part, row}
use Rattle.fields.specs.Single.{lone}
use Rattle.fields.specs.declared.terms.Terms.{Terms}

-- the first six bytes, the three after them, and the rest
abbrev pub date_in : List ℕ → List ℕ
date_in r = take 6 r

abbrev pub currency_in : List ℕ → List ℕ
currency_in r = take 3 (drop 6 r)

abbrev pub amount_in : List ℕ → List ℕ
amount_in r = drop 9 r

-- six digits, three capital letters, 1 to 15 digits or commas
abbrev pub is_value : List ℕ → Bool
is_value r = every (belongs Digit) (date_in r) && (every (belongs Capital) (currency_in r) && amount_spelled (amount_in r))

-- no amount, or nothing
abbrev pub bad_amount : Option ℕ → Bool
bad_amount None = true
bad_amount (Some cents) = cents == 0

-- more than one message may move
abbrev pub over_limit : Option ℕ → Bool
over_limit None = false
over_limit (Some cents) = nat_lt limit cents

abbrev pub value_of : Terms → ℕ → List (List ℕ) → Result Part Fault
value_of terms field rs = answer (first_fault field (
    (F06, lone is_value rs)
    ∷ (T09, when (not (bytes_eq (date_in (slice_index_or rs 0 [])) terms.day)) 0)
    ∷ (T10, when (not (bytes_eq (currency_in (slice_index_or rs 0 [])) terms.currency)) 0)
    ∷ (T11, when (bad_amount (amount_of (amount_in (slice_index_or rs 0 [])))) 0)
    ∷ (T29, when (over_limit (amount_of (amount_in (slice_index_or rs 0 [])))) 0)
    ∷ [])) (row (slice_index_or rs 0 []))

abbrev pub or_nothing : Option ℕ → ℕ
or_nothing None = 0
or_nothing (Some cents) = cents

-- what a row counts in its file's sum: its amount if it is a value's row with an amount, whatever the date, the currency and the limit, else nothing
abbrev pub counted_of : List ℕ → ℕ
counted_of r = cond (is_value r) (or_nothing (amount_of (amount_in r))) 0
