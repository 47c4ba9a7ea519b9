use Rattle.std.proofs.Common.{rules}
use Rattle.files.proofs.Taking.{spent_sum, agrees_in}
use Rattle.files.proofs.tally.tally_of.Goals as goal

pub returns-clause-agrees : goal.returns-clause-agrees
returns-clause-agrees c = agrees_in _ _ _ _ c.then_some.ensures (search (rules, spent_sum))
