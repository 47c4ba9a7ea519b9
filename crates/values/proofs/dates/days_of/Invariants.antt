use Rattle.std.proofs.Common.{◌≡◌, ◌*◌, ◌+◌, ◌-◌, ◌≤◌}
use Rattle.values.specs.Calendar.{days_of}
use Rattle.values.proofs.dates.days_of.Given as goal

abbrev pub invariant-loop-month : goal.invariant-loop-month
invariant-loop-month l = (l.days ≡ days_of l.year (l.month - 1)) × (l.days ≤ 32 * (l.month - 1)) × (1 ≤ l.month) × (l.month ≤ l.months + 1)
