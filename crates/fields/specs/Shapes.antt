-- A field that was read, by what its references point to.
use Rattle.std.specs.Prelude.{ℕ, List, [], None, Ok, Err, Option, Result}
use Rattle.std.specs.Option.{option_map}
use Rattle.faults.specs.declared.code.Fault.{Fault}
use Rattle.text.specs.Rows.{rows_of}
use Rattle.fields.specs.declared.shape.Field.{Field}
use Rattle.fields.specs.declared.shape.Field.TheVariants.{Row, Rows, Party, Bic}

-- a row, rows, an account or none with rows, or a BIC
pub data Part : Type 0 where
  row : List ℕ → Part
  rows : List (List ℕ) → Part
  party : Option (List ℕ) → List (List ℕ) → Part
  bic : List ℕ → Part

abbrev pub part_of : Field → Part
part_of (Row r) = row r.now
part_of (Rows b) = rows (rows_of b.now)
part_of (Party a b) = party (option_map (λ x. x.now) a) (rows_of b.now)
part_of (Bic b) = bic b.now

abbrev pub seen : Result Field Fault → Result Part Fault
seen (Ok f) = Ok (part_of f)
seen (Err e) = Err e

-- the account that a field gives, if it gives one
abbrev pub account_in : Part → Option (List ℕ)
account_in (row r) = None
account_in (rows rs) = None
account_in (party a rs) = a
account_in (bic b) = None

-- the single row or the BIC that a field is; nothing of rows
abbrev pub line_in : Part → List ℕ
line_in (row r) = r
line_in (rows rs) = []
line_in (party a rs) = []
line_in (bic b) = b
