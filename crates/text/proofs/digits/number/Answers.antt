use Rattle.std.proofs.Common.{sym, ◌∙◌, arith}
use Rattle.text.proofs.Numbers.{read_over}
use Rattle.text.proofs.digits.number.Goals as goal

pub returns-in_err-checked_mul : goal.returns-in_err-checked_mul
returns-in_err-checked_mul c = c.from_residual.ensures ∙ sym (read_over _ _ _ c.loop-b-test.true (omega arith)) ∙ c.loop-b.invariant.1

pub returns-in_err-n : goal.returns-in_err-n
returns-in_err-n c = c.from_residual-in_err-n.ensures ∙ sym (read_over _ _ _ c.loop-b-test.true (omega arith)) ∙ c.loop-b.invariant.1
