use Rattle.std.proofs.Common.{◌≡◌, vec_items}
use Rattle.script.specs.Commands.{said_by_all}
use Rattle.script.proofs.Following.{following}
use Rattle.script.proofs.said.read_all.Given as goal

abbrev pub invariant-loop-word : goal.invariant-loop-word
invariant-loop-word g l = following (vec_items l.all) (said_by_all g.T.FromBytes.written l.word-iterator) ≡ said_by_all g.T.FromBytes.written l.fn.words
