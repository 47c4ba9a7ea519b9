-- A payment by what its references point to.
use Rattle.std.specs.Prelude.{List, [], ◌∷◌, Some, Option}
use Rattle.std.specs.Option.{option_map}
use Rattle.cuts.specs.Cuts.{Parts}
use Rattle.cuts.specs.Fields.{parts_in}
use Rattle.cuts.specs.declared.tagged.Tagged.{Tagged}
use Rattle.fields.specs.Shapes.{Part, part_of}
use Rattle.fields.specs.declared.shape.Field.{Field}
use Rattle.messages.specs.declared.payment.PaymentParts.{PaymentParts}
use Rattle.messages.specs.declared.payment.PaymentStart.{PaymentStart}

-- the fields slot by slot, each seen so
abbrev pub payment_slots : {T X : Type 0} → (T → X) → PaymentParts T → List (Option X)
payment_slots view p =
    Some (view p.reference) ∷ Some (view p.operation) ∷ option_map view p.instruction ∷ Some (view p.value)
    ∷ Some (view p.payer) ∷ option_map view p.bank ∷ Some (view p.payee) ∷ option_map view p.remittance ∷ Some (view p.charges) ∷ []

-- the fields as they stand in the text
abbrev pub laid_payment : PaymentParts Tagged → List (Option Parts)
laid_payment l = payment_slots parts_in l

-- the fields as they were read
abbrev pub payment_in : PaymentParts Field → List (Option Part)
payment_in c = payment_slots part_of c

-- the first four of them
abbrev pub start_in : PaymentStart → List (Option Part)
start_in s = Some (part_of s.reference) ∷ Some (part_of s.operation) ∷ option_map part_of s.instruction ∷ Some (part_of s.value) ∷ []
