-- The fields that a walk has before it.
use Rattle.std.specs.Prelude.{List, [], ◌∷◌, Some, None, Option}
use Rattle.cuts.specs.Cuts.{Parts}
use Rattle.cuts.specs.Fields.{parts_in, fields_left}
use Rattle.cuts.specs.declared.tagged.Tagged.{Tagged}
use Rattle.orders.specs.declared.walk.Walk.{Walk}

abbrev pub with_next : Option Tagged → List Parts → List Parts
with_next None later = []
with_next (Some f) later = parts_in f ∷ later

-- the field at hand and those after it
abbrev pub to_come : Walk → List Parts
to_come w = with_next w.next (fields_left w.after)
