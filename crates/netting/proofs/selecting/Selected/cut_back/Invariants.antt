use Rattle.std.proofs.Common.{◌≡◌, ◌<◌, ◌⊎◌, length, take}
use Rattle.std.specs.Slice.Iter.{iter_rest}
use Rattle.netting.specs.Selections.{marked}
use Rattle.netting.specs.Selected.{StandsIn, LosesNothing}
use Rattle.netting.specs.Steps.{NoneFrom, count}
use Rattle.netting.proofs.selecting.Selected.cut_back.Given as goal

abbrev pub invariant-walk : goal.invariant-walk
invariant-walk l =
    record {
      ahead : iter_rest l.i-iterator.iter.iter ≡ take (length (iter_rest l.i-iterator.iter.iter)) l.initial.self.records.now;
      from_0 : l.i-iterator.iter.count ≡ 0;
      there : StandsIn l.initial.self.records.now l.initial.self.marks l.initial.self.positions l.self;
      nothing_lost : LosesNothing l.house l.cover l.initial.self l.self;
      fewer : (count l.initial.self.records.now (marked l.self.marks.now) < count l.initial.self.records.now (marked l.initial.self.marks.now))
          ⊎ (l.self ≡ l.initial.self);
      none : NoneFrom l.initial.self.records.now (marked l.self.marks.now) l.house (length (iter_rest l.i-iterator.iter.iter));
    }
