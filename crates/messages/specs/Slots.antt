-- The orders of the fields of each kind of message.
use Rattle.std.specs.Prelude.{ℕ, true, false, List, [], ◌∷◌}
use Rattle.orders.specs.declared.slot.Lettering.{Lettering}
use Rattle.orders.specs.declared.slot.Lettering.TheVariants.{Bare, Letter, Any}
use Rattle.orders.specs.declared.slot.Slot.{Slot}

-- a field that must be there, and one that may be missing
abbrev pub must : ℕ → Lettering → Slot
must n l = record { number = n; letter = l; may_be_missing = false }

abbrev pub may : ℕ → Lettering → Slot
may n l = record { number = n; letter = l; may_be_missing = true }

-- 20, 23B, [23E], 32A, 50, [57], 59, [70], 71A; A is 65, B is 66, E is 69
abbrev pub payment_order : List Slot
payment_order =
    must 20 Bare ∷ must 23 (Letter 66) ∷ may 23 (Letter 69) ∷ must 32 (Letter 65) ∷ must 50 Any ∷ may 57 Any ∷ must 59 Any ∷ may 70 Bare ∷ must 71 (Letter 65) ∷ []

-- 20, 21, 32A, 58, 72
abbrev pub return_order : List Slot
return_order = must 20 Bare ∷ must 21 Bare ∷ must 32 (Letter 65) ∷ must 58 Any ∷ must 72 Bare ∷ []
