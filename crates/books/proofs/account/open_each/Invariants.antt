use Rattle.std.proofs.Common.{◌≡◌, ◌≤◌, map, length, take, vec_items, vec_capacity}
use Rattle.books.proofs.account.open_each.Given as goal

abbrev pub invariant-loop-sum : goal.invariant-loop-sum
invariant-loop-sum g l = (length l.sums ≤ vec_capacity l.accounts)
    × ((map g.A.Account.cover_in (vec_items l.accounts) ≡ take l.sum-index l.sums)
    × (map g.A.Account.pledge_in (vec_items l.accounts) ≡ map g.A.Account.pledge_of (take l.sum-index l.sums)))
