use Rattle.std.proofs.Common.{◌≡◌, ◌*◌, take, pos, neg_ℤ, ◌≤ℤ◌}
use Rattle.keeper.specs.Offers.{sum_ℤ, position_limit}
use Rattle.books.proofs.offers.sum_of.Given as goal

abbrev pub invariant-loop-p : goal.invariant-loop-p
invariant-loop-p l = (l.sum ≡ sum_ℤ (take l.p-index l.ps)) × (l.sum ≤ℤ pos (l.p-index * position_limit)) × (neg_ℤ (pos (l.p-index * position_limit)) ≤ℤ l.sum)
