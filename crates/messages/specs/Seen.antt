-- Fields that may be missing, as they were read.
use Rattle.std.specs.Prelude.{None, Ok, Err, Option, Result}
use Rattle.std.specs.Option.{option_map}
use Rattle.faults.specs.declared.code.Fault.{Fault}
use Rattle.fields.specs.Shapes.{Part, part_of}
use Rattle.fields.specs.declared.shape.Field.{Field}

-- a field that may be missing
abbrev pub part_seen : Result (Option Field) Fault → Option Part
part_seen (Ok f) = option_map part_of f
part_seen (Err e) = None
