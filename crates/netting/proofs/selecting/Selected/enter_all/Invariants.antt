use Rattle.std.proofs.Common.{◌≡◌, ℕ, ◌<◌, ◌≤◌, false, get_or}
use Rattle.netting.specs.Payments.{waiting}
use Rattle.netting.specs.Selected.{StandsIn}
use Rattle.netting.proofs.selecting.Selected.enter_all.Given as goal

abbrev pub invariant-loop-i : goal.invariant-loop-i
invariant-loop-i l =
    record {
      there : StandsIn l.initial.self.records.now l.initial.self.marks l.initial.self.positions l.self;
      passed : (k : ℕ) → k < l.i → get_or l.self.marks.now k false ≡ waiting l.initial.self.records.now k;
      ahead : (k : ℕ) → l.i ≤ k → get_or l.self.marks.now k false ≡ false;
    }
