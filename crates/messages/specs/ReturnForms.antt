-- A return by what its references point to.
use Rattle.std.specs.Prelude.{List, [], ◌∷◌, Some, Option}
use Rattle.cuts.specs.Cuts.{Parts}
use Rattle.cuts.specs.Fields.{parts_in}
use Rattle.cuts.specs.declared.tagged.Tagged.{Tagged}
use Rattle.fields.specs.Shapes.{Part, part_of}
use Rattle.fields.specs.declared.shape.Field.{Field}
use Rattle.messages.specs.declared.returned.ReturnParts.{ReturnParts}

-- the fields slot by slot, each seen so
abbrev pub return_slots : {T X : Type 0} → (T → X) → ReturnParts T → List (Option X)
return_slots view p = Some (view p.reference) ∷ Some (view p.related) ∷ Some (view p.value) ∷ Some (view p.bank) ∷ Some (view p.reason) ∷ []

-- the fields as they stand in the text
abbrev pub laid_return : ReturnParts Tagged → List (Option Parts)
laid_return l = return_slots parts_in l

-- the fields as they were read
abbrev pub return_in : ReturnParts Field → List (Option Part)
return_in c = return_slots part_of c
