use Rattle.std.proofs.Common.{◌∙◌}
use Rattle.std.proofs.lemmas.List.{length-set}
use Rattle.values.proofs.Tens.{tens_off, digits_more}
use Rattle.values.proofs.digits.digits.Goals as goal

pub loop-i-preserved : goal.loop-i-preserved
loop-i-preserved g c =
    let s = c.loop-i.invariant in
    (tens_off _ _ _ s.0, digits_more c.loop-i.bytes g.row.N c.loop-i.i c.args.n c.loop-i.rest s.2 c.loop-i-test.true s.0 s.1, length-set _ _ _ ∙ s.2)
