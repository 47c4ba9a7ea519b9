use Rattle.std.proofs.Common.{rules}
use Rattle.keys.proofs.Same.{written_by}
use Rattle.keys.proofs.bic.Bic.is_written_as.Goals as goal

pub returns : goal.returns
returns c = written_by c.args.self c.read.result c.args.text.now c.is_some_and.result c.read.ensures (search rules)
