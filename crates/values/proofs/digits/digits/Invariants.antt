use Rattle.std.proofs.Common.{◌≡◌, ◌-◌, ◌/◌, ◌^◌, length, drop}
use Rattle.values.specs.Digits.{digits}
use Rattle.values.proofs.digits.digits.Given as goal

abbrev pub invariant-loop-i : goal.invariant-loop-i
invariant-loop-i g l = (l.rest ≡ l.n / 10 ^ l.i) × (drop (g.row.N - l.i) l.bytes ≡ digits l.i l.n) × (length l.bytes ≡ g.row.N)
