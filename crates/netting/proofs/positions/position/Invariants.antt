use Rattle.std.proofs.Common.{◌≡◌, ◌*◌, ◌≤◌}
use Rattle.netting.specs.Sums.{sum_to}
use Rattle.netting.specs.Payments.{most_cents, waiting, is_from, is_to}
use Rattle.netting.specs.Selections.{share}
use Rattle.netting.proofs.positions.position.Given as goal

abbrev pub invariant-loop-r : goal.invariant-loop-r
invariant-loop-r l =
    (l.received ≡ sum_to (share is_to l.records (waiting l.records) l.house) l.r-index)
    × (l.sent ≡ sum_to (share is_from l.records (waiting l.records) l.house) l.r-index)
    × (l.received ≤ l.r-index * most_cents)
    × (l.sent ≤ l.r-index * most_cents)
