use Rattle.netting.proofs.Shifts.{nothing}
use Rattle.netting.proofs.selecting.Selected.all.Goals as goal

pub invariant_of-selected : goal.invariant_of-selected
invariant_of-selected c =
    record { in_step = rw (c.fill.ensures.after (λ y e. e), c.fill-2.ensures.after (λ y e. e)) (nothing _ _ _ c.requires.listed c.requires.long) }
