use Rattle.netting.proofs.Cuts.{cut_stands, cut_fewer}
use Rattle.netting.proofs.Shifts.{left, in_step_within}
use Rattle.netting.proofs.selecting.Selected.leave.Goals as goal

pub shift-requires-clause-within : goal.shift-requires-clause-within
shift-requires-clause-within c = in_step_within _ _ _ _ c.args.self.now.in_step

pub invariant_of-self : goal.invariant_of-self
invariant_of-self c =
    record { in_step = left _ _ _ _ c.args.i _ c.args.self.now.in_step c.requires.latest.here c.requires.latest.held c.unwrap-receiver.ensures c.shift.ensures }

pub returns-clause-nothing_lost : goal.returns-clause-nothing_lost
returns-clause-nothing_lost c = cut_stands _ _ _ _ c.args.self.now.in_step _ _ c.requires.house c.requires.lacks _ c.requires.latest

pub returns-clause-fewer : goal.returns-clause-fewer
returns-clause-fewer c = cut_fewer _ _ _ _ c.args.self.now.in_step _ _ c.requires.house c.requires.lacks _ c.requires.latest
