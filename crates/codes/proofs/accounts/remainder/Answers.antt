use Rattle.std.proofs.Common.{rules}
use Rattle.std.proofs.lemmas.List.{take_all}
use Rattle.codes.proofs.Remainders.{remainder_more}
use Rattle.codes.proofs.accounts.remainder.Goals as goal

pub loop-b-preserved : goal.loop-b-preserved
loop-b-preserved c = (search rules, remainder_more _ _ _ _ _ _ c.loop-b-test.true c.loop-b.invariant.1 c.char_scale.ensures c.char_value.ensures)

pub returns : goal.returns
returns c = search (rules, take_all)
