use Rattle.std.proofs.Common.{◌∙◌}
use Rattle.codes.proofs.Remainders.{written_twice}
use Rattle.codes.proofs.accounts.account_remainder.Goals as goal

pub returns : goal.returns
returns c = c.remainder.ensures ∙ written_twice _ _ _ _ _ c.remainder-moved.ensures c.skip.ensures c.front.ensures
