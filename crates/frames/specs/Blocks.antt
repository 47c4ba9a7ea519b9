-- What the structs of blocks mean: the bytes that they borrow.
use Rattle.std.specs.Prelude.{Some, None, Option}
use Rattle.frames.specs.declared.blocks.Blocks.{Blocks}
use Rattle.frames.specs.declared.blocks.Address.{Address}
use Rattle.frames.specs.Layout.{Parts, Named}

abbrev pub parts_in : Blocks → Parts
parts_in b = record { first = b.first.now; second = b.second.now; text = b.text.now }

abbrev pub read_as : Option Blocks → Option Parts
read_as None = None
read_as (Some b) = Some (parts_in b)

abbrev pub named_in : Address → Named
named_in a = record { bic = a.bic.now; branch = a.branch.now }
