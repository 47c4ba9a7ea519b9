-- Fields of rows: the remittance and the reason of a return.
use Rattle.std.specs.Prelude.{ℕ, Bool, cond, not, ◌&&◌, List, [], ◌∷◌, length, take, drop, Some, codes, Option, Result, ◌==◌, slice_index, slice_index_or}
use Rattle.std.specs.Str.{bytes_eq}
use Rattle.faults.specs.declared.code.Code.TheVariants.{F06, T27, T28}
use Rattle.faults.specs.declared.code.Fault.{Fault}
use Rattle.text.specs.Chars.{digit, capital}
use Rattle.fields.specs.Faults.{when, first_fault, answer}
use Rattle.fields.specs.Lines.{bad_line, first_row}
use Rattle.fields.specs.Shapes.{Part, rows}

-- the row at fault where there may be 1 to so many: none there, one too many, empty or too long
abbrev pub run_row : ℕ → List (List ℕ) → Option ℕ
run_row most rs = cond (length rs == 0) (Some 1) (first_row (bad_line most) 1 rs)

-- 1 to 4 rows
abbrev pub remittance_of : ℕ → List (List ℕ) → Result Part Fault
remittance_of field rs = answer (first_fault field ((F06, run_row 4 rs) ∷ [])) (rows rs)

-- how a reason's first row begins
abbrev pub reject : List ℕ
reject = codes "/REJECT/"

-- a capital letter and two digits
abbrev pub is_reason_code : List ℕ → Bool
is_reason_code s = length s == 3 && (capital (slice_index s 0) && (digit (slice_index s 1) && digit (slice_index s 2)))

-- 1 to 6 rows; the first begins with /REJECT/, and goes on with the code of the reason alone
abbrev pub reason_of : ℕ → List (List ℕ) → Result Part Fault
reason_of field rs = answer (first_fault field (
    (F06, run_row 6 rs)
    ∷ (T27, when (not (bytes_eq (take (length reject) (slice_index_or rs 0 [])) reject)) 0)
    ∷ (T28, when (not (is_reason_code (drop (length reject) (slice_index_or rs 0 [])))) 0)
    ∷ [])) (rows rs)
