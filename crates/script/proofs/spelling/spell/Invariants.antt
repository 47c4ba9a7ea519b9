use Rattle.std.proofs.Common.{◌≡◌, length, vec_items}
use Rattle.script.proofs.Following.{following}
use Rattle.script.specs.Spelling.{spelled}
use Rattle.script.proofs.spelling.spell.Given as goal

abbrev pub invariant-loop-bytes : goal.invariant-loop-bytes
invariant-loop-bytes l = following (vec_items l.bytes) (spelled l.rest) ≡ spelled l.word

abbrev pub decreases-loop-bytes : goal.decreases-loop-bytes
decreases-loop-bytes l = length l.rest
