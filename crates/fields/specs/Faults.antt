-- The first failing check of a table.
use Rattle.std.specs.Prelude.{ℕ, Bool, cond, List, [], ◌∷◌, Some, None, Ok, Err, Option, Result}
use Rattle.faults.specs.declared.code.Code.{Code}
use Rattle.faults.specs.declared.code.Fault.{Fault}
use Rattle.fields.specs.Shapes.{Part}

-- a check that fails at row n, or at no row in particular for 0
abbrev pub when : Bool → ℕ → Option ℕ
when b n = cond b (Some n) None

abbrev pub fault_at : Code → ℕ → Option ℕ → Option Fault → Option Fault
fault_at c field (Some n) later = Some (record { code = c; field = field; row = n })
fault_at c field None later = later

-- the first entry that fails, each a code and the row at which its check fails, if it does
abbrev pub first_fault : ℕ → List (Code × Option ℕ) → Option Fault
first_fault field [] = None
first_fault field (e ∷ es) = fault_at e.0 field e.1 (first_fault field es)

-- the field as it was read, unless a check failed
abbrev pub answer : Option Fault → Part → Result Part Fault
answer (Some f) p = Err f
answer None p = Ok p
