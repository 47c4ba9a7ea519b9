use Rattle.std.proofs.Common.{◌≡◌, ℕ, ◌≤◌, length, get_or}
use Rattle.keeper.specs.Runs.{Ran, history}
use Rattle.keeper.specs.declared.step.StepAnswer.{StepAnswer}
use Rattle.keeper.proofs.carrying.carry_out.Given as goal

abbrev pub invariant-loop-place : goal.invariant-loop-place
invariant-loop-place g l =
    Ran (record { covers = g.K.Keeper.covers l.initial.keeper; sittings = g.K.Keeper.sittings l.initial.keeper })
    (history l.steps l.answers l.place)
    (record { covers = g.K.Keeper.covers l.keeper; sittings = g.K.Keeper.sittings l.keeper })
    × ((k : ℕ) (d : StepAnswer) → l.place ≤ k → get_or l.answers k d ≡ get_or l.initial.answers k d) × (l.place ≤ length l.answers)
