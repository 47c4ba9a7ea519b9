use Rattle.std.proofs.Common.{◌≡◌}
use Rattle.netting.specs.Selections.{marked}
use Rattle.netting.specs.Selected.{StandsIn}
use Rattle.netting.specs.Steps.{Standing, count}
use Rattle.netting.proofs.settle.settle_morning.Given as goal

abbrev pub invariant-offers : goal.invariant-offers
invariant-offers g l =
    record {
      there : StandsIn l.records l.initial.selected.marks l.initial.selected.positions l.selected;
      standing : Standing l.records (g.K.Keeper.covers l.initial.keeper) (marked l.selected.marks.now);
      unaltered : l.keeper ≡ l.initial.keeper;
    }

abbrev pub decreases-offers : goal.decreases-offers
decreases-offers g l = count l.records (marked l.selected.marks.now)
