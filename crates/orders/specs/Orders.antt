-- Fields in an order of slots, some of which may stay empty.
use Rattle.std.specs.Prelude.{◌≡◌, ℕ, Bool, true, false, cond, ◌&&◌, ◌||◌, List, [], ◌∷◌, length, is_some, Some, None, Option, ◌==◌}
use Rattle.text.specs.Rows.{rows_of}
use Rattle.text.specs.Texts.{formed}
use Rattle.text.specs.declared.tag.Tag.{Tag}
use Rattle.cuts.specs.Cuts.{Parts, fields_of}
use Rattle.orders.specs.declared.slot.Lettering.{Lettering}
use Rattle.orders.specs.declared.slot.Lettering.TheVariants.{Bare, Letter, Any}
use Rattle.orders.specs.declared.slot.Slot.{Slot}

-- the fields of a text that is formed, and none of one that is not
abbrev pub fields_in : List ℕ → List Parts
fields_in t = cond (formed t) (fields_of (rows_of t)) []

-- the letter, or none, is one that the slot allows
abbrev pub lettered : Lettering → Option ℕ → Bool
lettered Bare None = true
lettered Bare (Some l) = false
lettered (Letter asked) None = false
lettered (Letter asked) (Some l) = l == asked
lettered Any found = true

-- the tag fits the slot
abbrev pub fits : Slot → Tag → Bool
fits s t = t.number == s.number && lettered s.letter t.letter

-- what stands in the slot: the first of the fields, if it fits
unfoldable pub taken : Slot → List Parts → Option Parts
taken s [] = None
taken s (f ∷ fs) = cond (fits s f.tag) (Some f) None

-- the fields after the slot
unfoldable pub left : Slot → List Parts → List Parts
left s [] = []
left s (f ∷ fs) = cond (fits s f.tag) fs (f ∷ fs)

-- the fields slot by slot
abbrev pub arranged : List Slot → List Parts → List (Option Parts)
arranged [] fs = []
arranged (s ∷ ss) fs = taken s fs ∷ arranged ss (left s fs)

-- what no slot took
abbrev pub left_over : List Slot → List Parts → List Parts
left_over [] fs = fs
left_over (s ∷ ss) fs = left_over ss (left s fs)

-- no slot is empty that may not be
abbrev pub complete : List Slot → List (Option Parts) → Bool
complete [] ps = true
complete (s ∷ ss) [] = false
complete (s ∷ ss) (p ∷ ps) = (s.may_be_missing || is_some p) && complete ss ps

-- the fields stand in the order: no slot is empty that may not be, and each field is in a slot
abbrev pub in_order : List Slot → List Parts → Bool
in_order order fs = complete order (arranged order fs) && length (left_over order fs) == 0

-- the fields slot by slot, if they stand in the order
abbrev pub placed : List Slot → List Parts → Option (List (Option Parts))
placed order fs = cond (in_order order fs) (Some (arranged order fs)) None

-- the fields that stand in slots, one after another
abbrev pub standing_in : List (Option Parts) → List Parts
standing_in [] = []
standing_in (None ∷ ps) = standing_in ps
standing_in (Some p ∷ ps) = p ∷ standing_in ps

-- each field that stands in a slot fits it
abbrev pub each_fits : List Slot → List (Option Parts) → Bool
each_fits [] ps = true
each_fits (s ∷ ss) [] = true
each_fits (s ∷ ss) (None ∷ ps) = each_fits ss ps
each_fits (s ∷ ss) (Some p ∷ ps) = fits s p.tag && each_fits ss ps

-- fields that are placed in an order are all there, as they came, each in a slot that it fits, and no slot is empty that may not be
abbrev pub OrderLaw : Type 0
OrderLaw = (order : List Slot) (fs : List Parts) (ps : List (Option Parts)) → placed order fs ≡ Some ps
    → (standing_in ps ≡ fs) × (each_fits order ps ≡ true) × (complete order ps ≡ true)
