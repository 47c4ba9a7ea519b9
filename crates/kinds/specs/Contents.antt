-- The contents of a message, part by part.
use Rattle.std.specs.Prelude.{ℕ, List, [], Some, None, Ok, Err, Option, Result}
use Rattle.faults.specs.declared.code.Fault.{Fault}
use Rattle.fields.specs.Shapes.{Part, line_in}

-- the one row of a field, or its BIC; of others nothing
abbrev pub row_in : Option Part → List ℕ
row_in None = []
row_in (Some p) = line_in p

-- contents that were read, by their parts
abbrev pub seen_as : {C : Type 0} → (C → List (Option Part)) → Result C Fault → Result (List (Option Part)) Fault
seen_as parts (Ok c) = Ok (parts c)
seen_as parts (Err f) = Err f
