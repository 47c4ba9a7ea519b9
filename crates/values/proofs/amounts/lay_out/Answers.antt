use Rattle.std.proofs.Common.{ap, ◌∙◌}
use Rattle.values.specs.Digits.{needless}
use Rattle.values.proofs.Writing.{laid_out}
use Rattle.values.proofs.amounts.lay_out.Goals as goal

pub returns : goal.returns
returns c =
    let w = c.copy_from_slice.ensures.after ∙ c.digits-whole.ensures in
    let p = c.copy_from_slice-2.ensures.after ∙ c.digits.ensures in
    rw (w, p) (laid_out c.args.cents c.needless.result (c.needless.ensures ∙ ap needless c.digits-whole.ensures))
