use Rattle.std.proofs.lemmas.Bool.Decides.{Decides-at}
use Rattle.keys.specs.Held.{same_bic}
use Rattle.keys.proofs.Same.{text_decides}
use Rattle.keys.proofs.bic.Bic.is.Goals as goal

pub returns-clause-texts : goal.returns-clause-texts
returns-clause-texts c = Decides-at c.eq.result (same_bic c.args.self c.args.other) c.eq.ensures (text_decides c.args.self c.args.other)
