use Rattle.std.proofs.Common.{◌≡◌, ◌<◌, drop}
use Rattle.text.specs.Digits.{number_end, number_of}
use Rattle.text.proofs.Numbers.{read_after}
use Rattle.text.proofs.digits.number.Given as goal

abbrev pub invariant-loop-b : goal.invariant-loop-b
invariant-loop-b l = (l.n < number_end) × (read_after l.n (drop l.b-index l.s) ≡ number_of l.s)
