-- The readings of a message's fields, each by the field's own rules.
use Rattle.std.specs.Prelude.{ℕ, List, Some, None, Ok, Err, Option, Result, slice_index_or}
use Rattle.codes.specs.Instructions.{instruction_ok}
use Rattle.cuts.specs.Cuts.{Parts}
use Rattle.faults.specs.declared.code.Code.TheVariants.{F05}
use Rattle.faults.specs.declared.code.Fault.{Fault}
use Rattle.fields.specs.Party.{party_of}
use Rattle.fields.specs.Run.{remittance_of, reason_of}
use Rattle.fields.specs.Shapes as Shapes
use Rattle.fields.specs.Shapes.{Part}
use Rattle.fields.specs.Single.{single, is_operation, is_charge, bank_of}
use Rattle.fields.specs.Value.{value_of}
use Rattle.fields.specs.declared.terms.Terms.{Terms}
use Rattle.text.specs.Reference.{is_reference}

unfoldable pub reference_read : Parts → Result Part Fault
reference_read p = single is_reference p.tag.number p.rows

unfoldable pub operation_read : Parts → Result Part Fault
operation_read p = single is_operation p.tag.number p.rows

unfoldable pub instruction_read : Parts → Result Part Fault
instruction_read p = single instruction_ok p.tag.number p.rows

unfoldable pub value_read : Terms → Parts → Result Part Fault
value_read terms p = value_of terms p.tag.number p.rows

-- a payer's letter is K, which is 75
unfoldable pub payer_read : Parts → Result Part Fault
payer_read p = party_of (Some 75) p.tag.letter p.tag.number p.rows

unfoldable pub bank_read : Parts → Result Part Fault
bank_read p = bank_of p.tag.letter p.tag.number p.rows

unfoldable pub payee_read : Parts → Result Part Fault
payee_read p = party_of None p.tag.letter p.tag.number p.rows

unfoldable pub remittance_read : Parts → Result Part Fault
remittance_read p = remittance_of p.tag.number p.rows

unfoldable pub charges_read : Parts → Result Part Fault
charges_read p = single is_charge p.tag.number p.rows

unfoldable pub reason_read : Parts → Result Part Fault
reason_read p = reason_of p.tag.number p.rows

-- what stands in the slot of a number, from 0
abbrev pub standing : ℕ → List (Option Parts) → Option Parts
standing n ps = slice_index_or ps n None

-- the fault of a field that is there
abbrev pub fault_in : Option (Result Part Fault) → Option Fault
fault_in None = None
fault_in (Some (Ok p)) = None
fault_in (Some (Err f)) = Some f

-- the field as it is read
abbrev pub part_in : Option (Result Part Fault) → Option Part
part_in None = None
part_in (Some (Ok p)) = Some p
part_in (Some (Err f)) = None

-- the account that a party has
abbrev pub account_in : Option Part → Option (List ℕ)
account_in None = None
account_in (Some p) = Shapes.account_in p

-- what is read of fields that stand in their slots; fields out of order are F05
abbrev pub in_slots : (List (Option Parts) → Result (List (Option Part)) Fault) → Option (List (Option Parts)) → Result (List (Option Part)) Fault
in_slots reads None = Err (record { code = F05; field = 0; row = 0 })
in_slots reads (Some ps) = reads ps
