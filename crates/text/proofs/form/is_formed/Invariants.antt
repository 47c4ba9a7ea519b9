use Rattle.std.proofs.Common.{◌≡◌, length}
use Rattle.text.specs.Texts.{good}
use Rattle.text.proofs.form.is_formed.Given as goal

abbrev pub invariant-loop-rest : goal.invariant-loop-rest
invariant-loop-rest l = good l.rest ≡ good l.text

abbrev pub decreases-loop-rest : goal.decreases-loop-rest
decreases-loop-rest l = length l.rest
