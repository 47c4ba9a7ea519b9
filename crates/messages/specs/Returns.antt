-- The verdict on a return's fields.
use Rattle.std.specs.Prelude.{ℕ, not, List, [], ◌∷◌, Option, Result}
use Rattle.std.specs.Option.{option_map}
use Rattle.std.specs.Str.{bytes_eq}
use Rattle.cuts.specs.Cuts.{Parts}
use Rattle.faults.specs.declared.code.Code.TheVariants.{T26}
use Rattle.faults.specs.declared.code.Fault.{Fault}
use Rattle.fields.specs.Shapes.{Part}
use Rattle.fields.specs.declared.terms.Terms.{Terms}
use Rattle.kinds.specs.Contents.{row_in}
use Rattle.orders.specs.Orders.{placed}
use Rattle.messages.specs.Readings.{reference_read, value_read, bank_read, reason_read, standing, fault_in, part_in, in_slots}
use Rattle.messages.specs.Slots.{return_order}
use Rattle.headers.specs.Tables.{failing, first_of, unless}

-- each field's checks in their order; right after its own check the bank must be the receiver
abbrev pub return_faults : Terms → List ℕ → List (Option Parts) → List (Option Fault)
return_faults terms receiver ps =
    fault_in (option_map reference_read (standing 0 ps))
    ∷ fault_in (option_map reference_read (standing 1 ps))
    ∷ fault_in (option_map (value_read terms) (standing 2 ps))
    ∷ fault_in (option_map bank_read (standing 3 ps))
    ∷ failing T26 58 (not (bytes_eq (row_in (part_in (option_map bank_read (standing 3 ps)))) receiver))
    ∷ fault_in (option_map reason_read (standing 4 ps))
    ∷ []

-- the fields of a return as they are read
abbrev pub return_parts : Terms → List (Option Parts) → List (Option Part)
return_parts terms ps =
    part_in (option_map reference_read (standing 0 ps))
    ∷ part_in (option_map reference_read (standing 1 ps))
    ∷ part_in (option_map (value_read terms) (standing 2 ps))
    ∷ part_in (option_map bank_read (standing 3 ps))
    ∷ part_in (option_map reason_read (standing 4 ps))
    ∷ []

-- the fields that stand in a return's slots, unless a check fails
abbrev pub return_of : Terms → List ℕ → List (Option Parts) → Result (List (Option Part)) Fault
return_of terms receiver ps = unless (first_of (return_faults terms receiver ps)) (return_parts terms ps)

-- the fields of a return in their order
abbrev pub return_read : Terms → List ℕ → List Parts → Result (List (Option Part)) Fault
return_read terms receiver fs = in_slots (return_of terms receiver) (placed return_order fs)
