use Rattle.std.proofs.Common.{length, ap, arith}
use Rattle.std.proofs.lemmas.List.{length-map}
use Rattle.keeper.specs.Covers.{total}
use Rattle.books.proofs.Opened.{together_bounded}
use Rattle.books.proofs.book.Book.open.Goals as goal

pub total_of-requires : goal.total_of-requires
total_of-requires g c = together_bounded c.args.sums.now c.args.sittings (c.may_open.ensures.0 c.if-not-may_open.false)

pub invariant_of-result : goal.invariant_of-result
invariant_of-result g c =
    let o = c.may_open.ensures.0 c.if-not-may_open.false in
    let e = c.in_ok-accounts.ensures.covers in
    let n = length-map c.in_ok-accounts.accounts.items g.A.Account.cover_in in
    let l = ap length e in
    let t = ap total e in
    let known = c.total_of.ensures in
    let b = together_bounded c.args.sums.now c.args.sittings o in
    let some = o.some in
    let few = o.few in
    record { some = omega arith; few = omega arith; known = omega arith; bounded = omega arith }
