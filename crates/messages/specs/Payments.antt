-- The verdict on a payment's fields.
use Rattle.std.specs.Prelude.{ℕ, Bool, false, not, ◌&&◌, List, [], ◌∷◌, ◌++◌, map, take, is_some, Some, None, Option, Result}
use Rattle.std.specs.Option.{option_map}
use Rattle.std.specs.Str.{bytes_eq}
use Rattle.codes.specs.Accounts.{bank_of}
use Rattle.codes.specs.Instructions.{holds}
use Rattle.cuts.specs.Cuts.{Parts}
use Rattle.faults.specs.declared.code.Code.TheVariants.{T20, T33}
use Rattle.faults.specs.declared.code.Fault.{Fault}
use Rattle.fields.specs.Party.{is_latvian}
use Rattle.fields.specs.Shapes.{Part}
use Rattle.fields.specs.declared.terms.Terms.{Terms}
use Rattle.kinds.specs.Contents.{row_in}
use Rattle.orders.specs.Orders.{placed}
use Rattle.messages.specs.Readings.{reference_read, operation_read, instruction_read, value_read, payer_read, bank_read, payee_read, remittance_read, charges_read}
use Rattle.messages.specs.Readings.{standing, fault_in, part_in, account_in, in_slots}
use Rattle.messages.specs.Slots.{payment_order}
use Rattle.headers.specs.Tables.{failing, first_of, unless}

-- the fields of a payment as they stand in its slots, each read: up to the value, and from the payer on
abbrev pub start_readings : Terms → List (Option Parts) → List (Option (Result Part Fault))
start_readings terms ps =
    option_map reference_read (standing 0 ps)
    ∷ option_map operation_read (standing 1 ps)
    ∷ option_map instruction_read (standing 2 ps)
    ∷ option_map (value_read terms) (standing 3 ps)
    ∷ []

abbrev pub later_readings : List (Option Parts) → List (Option (Result Part Fault))
later_readings ps =
    option_map payer_read (standing 4 ps)
    ∷ option_map bank_read (standing 5 ps)
    ∷ option_map payee_read (standing 6 ps)
    ∷ option_map remittance_read (standing 7 ps)
    ∷ option_map charges_read (standing 8 ps)
    ∷ []

-- a payee without an account is paid only where the instruction is to hold
abbrev pub unpayable : Option (List ℕ) → Bool → Bool
unpayable account held = not (is_some account) && not held

-- whether there is an instruction, and it is to hold
abbrev pub held_by : Option Part → Bool
held_by None = false
held_by (Some p) = holds (row_in (Some p))

-- the bank that should keep the payee's account: that of the payment if it names one, else the receiver
abbrev pub keeper_of : Option Part → List ℕ → List ℕ
keeper_of None receiver = receiver
keeper_of (Some p) receiver = row_in (Some p)

-- a Latvian account that another bank keeps
abbrev pub misplaced : Option (List ℕ) → List ℕ → Bool
misplaced None keeper = false
misplaced (Some a) keeper = is_latvian a && not (bytes_eq (bank_of a) (take 4 keeper))

-- the two last checks
abbrev pub last_faults : Option Part → Option Part → Option Part → List ℕ → List (Option Fault)
last_faults instruction bank payee receiver =
    failing T20 23 (unpayable (account_in payee) (held_by instruction))
    ∷ failing T33 59 (misplaced (account_in payee) (keeper_of bank receiver))
    ∷ []

unfoldable pub last_fault : Option Part → Option Part → Option Part → List ℕ → Option Fault
last_fault instruction bank payee receiver = first_of (last_faults instruction bank payee receiver)

-- the checks from the payer on, and the two last ones
abbrev pub later_faults : Option Part → List ℕ → List (Option Parts) → List (Option Fault)
later_faults instruction receiver ps =
    map fault_in (later_readings ps) ++ last_fault instruction (part_in (option_map bank_read (standing 5 ps))) (part_in (option_map payee_read (standing 6 ps))) receiver ∷ []

-- each field's checks in their order, and the two last ones
abbrev pub payment_faults : Terms → List ℕ → List (Option Parts) → List (Option Fault)
payment_faults terms receiver ps = map fault_in (start_readings terms ps) ++ later_faults (part_in (option_map instruction_read (standing 2 ps))) receiver ps

-- the fields that stand in a payment's slots, unless a check fails
abbrev pub payment_of : Terms → List ℕ → List (Option Parts) → Result (List (Option Part)) Fault
payment_of terms receiver ps = unless (first_of (payment_faults terms receiver ps)) (map part_in (start_readings terms ps) ++ map part_in (later_readings ps))

-- the fields of a payment in their order
abbrev pub payment_read : Terms → List ℕ → List Parts → Result (List (Option Part)) Fault
payment_read terms receiver fs = in_slots (payment_of terms receiver) (placed payment_order fs)
