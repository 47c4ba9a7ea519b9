use Rattle.std.proofs.Common.{◌<◌, ◌∙◌, length, arith, rules}
use Rattle.values.proofs.Numbers.{whole_is, read_small}
use Rattle.values.proofs.amounts.whole.Goals as goal

pub returns-clause-exact : goal.returns-clause-exact
returns-clause-exact c =
    let some : 0 < length c.args.s.now = search rules in
    c.number.ensures ∙ whole_is c.args.s.now some (omega arith)

pub returns-clause-small : goal.returns-clause-small
returns-clause-small c = read_small c.args.s.now 15 c.number.result c.number.ensures (omega arith) (omega arith)
