use Rattle.std.proofs.Common.{◌≡◌, ◌%◌, ◌<◌, take}
use Rattle.codes.specs.Accounts.{written_after}
use Rattle.codes.proofs.accounts.remainder.Given as goal

abbrev pub invariant-loop-b : goal.invariant-loop-b
invariant-loop-b l = (l.r < 97) × (l.r ≡ written_after l.start (take l.b-index l.s) % 97)
