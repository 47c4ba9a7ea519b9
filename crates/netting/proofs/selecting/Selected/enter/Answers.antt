use Rattle.netting.proofs.Shifts.{entered, in_step_within}
use Rattle.netting.proofs.selecting.Selected.enter.Goals as goal

pub shift-requires-clause-within : goal.shift-requires-clause-within
shift-requires-clause-within c = in_step_within _ _ _ _ c.args.self.now.in_step

pub invariant_of-self : goal.invariant_of-self
invariant_of-self c =
    record { in_step = entered _ _ _ _ c.args.i _ c.args.self.now.in_step c.requires.here c.requires.out c.requires.waits c.unwrap-receiver.ensures c.shift.ensures }
