use Rattle.std.proofs.Common.{◌≡◌, map, get_or, pos, ◌+ℤ◌}
use Rattle.keeper.specs.Offers.{moved}
use Rattle.books.proofs.Worse.{WorstOf}
use Rattle.books.proofs.guarantee.GuaranteeNaming.short.Given as goal

abbrev pub invariant-loop-place : goal.invariant-loop-place
invariant-loop-place l = WorstOf (map (λ a. moved a.pledge a.sum) l.guarantees) l.positions l.place l.worst
    × (l.least ≡ pos (get_or (map (λ a. moved a.pledge a.sum) l.guarantees) l.worst 0) +ℤ get_or l.positions l.worst (pos 0))
