use Rattle.std.proofs.Common.{◌≡◌, map, take}
use Rattle.keeper.specs.Offers.{add_each}
use Rattle.books.proofs.account.add_each.Given as goal

abbrev pub invariant-loop-place : goal.invariant-loop-place
invariant-loop-place g l = (map g.A.Account.cover_in l.accounts ≡ add_each (map g.A.Account.cover_in l.initial.accounts) (take l.place l.positions))
    × (map g.A.Account.pledge_in l.accounts ≡ map g.A.Account.pledge_in l.initial.accounts)
