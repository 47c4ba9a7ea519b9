-- Fields of one row.
use Rattle.std.specs.Prelude.{ℕ, Bool, cond, not, ◌||◌, List, [], ◌∷◌, length, Some, codes, Option, Result, nat_lt, slice_index_or}
use Rattle.std.specs.Str.{bytes_eq}
use Rattle.faults.specs.declared.code.Code.TheVariants.{F06, F07}
use Rattle.faults.specs.declared.code.Fault.{Fault}
use Rattle.codes.specs.Bics.{bic_formed}
use Rattle.fields.specs.Letters.{letter_is}
use Rattle.fields.specs.Faults.{when, first_fault, answer}
use Rattle.fields.specs.Shapes.{Part, row, bic}

-- the row at fault: the first unless it passes the test, then the second if there is one
abbrev pub lone : (List ℕ → Bool) → List (List ℕ) → Option ℕ
lone test rs = cond (test (slice_index_or rs 0 [])) (when (nat_lt 1 (length rs)) 2) (Some 1)

-- one row that passes the test, else F06
abbrev pub single : (List ℕ → Bool) → ℕ → List (List ℕ) → Result Part Fault
single test field rs = answer (first_fault field ((F06, lone test rs) ∷ [])) (row (slice_index_or rs 0 []))

abbrev pub is_operation : List ℕ → Bool
is_operation r = bytes_eq r (codes "CRED")

-- who bears the charges
abbrev pub is_charge : List ℕ → Bool
is_charge r = bytes_eq r (codes "OUR") || (bytes_eq r (codes "SHA") || bytes_eq r (codes "BEN"))

-- the letter of a bank's field, A
abbrev pub bank_letter : ℕ
bank_letter = 65

-- one row, a BIC, under the letter A, else F07
abbrev pub bank_of : Option ℕ → ℕ → List (List ℕ) → Result Part Fault
bank_of letter field rs = answer (first_fault field (
    (F07, when (not (letter_is (Some bank_letter) letter)) 1)
    ∷ (F07, lone bic_formed rs)
    ∷ [])) (bic (slice_index_or rs 0 []))
