-- What may open is not too much together.
use Rattle.std.proofs.Common.{ℕ, ◌*◌, ◌≤◌, List, length, arith}
use Rattle.std.proofs.ByRecursion.{All-from_get_or}
use Rattle.std.proofs.ByRecursion.{sum_by_le}
use Rattle.keeper.specs.Covers.{total, most_together}
use Rattle.books.specs.Opening.{Openable, most_opening}

pub together_bounded : (sums : List ℕ) (sittings : ℕ) → Openable sums sittings → total sums ≤ most_together
together_bounded sums sittings o =
    let t : total sums ≤ length sums * most_opening = sum_by_le (λ c. c) most_opening sums (All-from_get_or (λ c. c ≤ most_opening) sums 0 o.small) in
    let few = o.few in
    omega arith
