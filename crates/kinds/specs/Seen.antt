-- A message that passed, by what its references point to.
use Rattle.std.specs.Prelude.{List, Ok, Err, Option, Result}
use Rattle.faults.specs.declared.code.Fault.{Fault}
use Rattle.fields.specs.Shapes.{Part}
use Rattle.kinds.specs.Verdicts.{Approved}
use Rattle.kinds.specs.declared.judging.Passed.{Passed}

abbrev pub approved_in : {C : Type 0} → (C → List (Option Part)) → Passed C → Approved
approved_in parts p = record { receiver = p.receiver; reference = p.reference.now; amount = p.amount; parts = parts p.contents }

abbrev pub seen_passed : {C : Type 0} → (C → List (Option Part)) → Result (Passed C) Fault → Result Approved Fault
seen_passed parts (Ok p) = Ok (approved_in parts p)
seen_passed parts (Err f) = Err f
