use Rattle.std.proofs.Common.{map, vec_items, sym, ap, ◌∙◌, arith, length-set}
use Rattle.std.proofs.Math.Seq.{map-set_same}
use Rattle.std.proofs.lemmas.Int.{ints}
use Rattle.books.proofs.Moving.{paid_room, paid_covers, paid_total}
use Rattle.books.proofs.Totals.{room_for}
use Rattle.books.proofs.book.BookPayingIn.pay_in.Goals as goal

pub moved-requires-clause-room : goal.moved-requires-clause-room
moved-requires-clause-room g c =
    let r = paid_room g.A.Account.cover_in (vec_items c.args.self.now.accounts) c.args.place c.args.amount c.in_ok-pay_in_answer.field-0
    (sym c.in_ok-pay_in_answer.was ∙ c.pay_in_answer.ensures) c.index.result.now c.index.ensures in
    omega (arith, ints)

pub overflow_add-self : goal.overflow_add-self
overflow_add-self g c =
    let known = c.args.self.now.known in
    let m = (room_for (map g.A.Account.cover_in (vec_items c.args.self.now.accounts)) c.args.place c.args.amount c.in_ok-pay_in_answer.field-0
    (sym c.in_ok-pay_in_answer.was ∙ c.pay_in_answer.ensures)).room in
    omega arith

pub invariant_of-self : goal.invariant_of-self
invariant_of-self g c =
    let r = paid_room g.A.Account.cover_in (vec_items c.args.self.now.accounts) c.args.place c.args.amount c.in_ok-pay_in_answer.field-0
    (sym c.in_ok-pay_in_answer.was ∙ c.pay_in_answer.ensures) c.index.result.now c.index.ensures in
    let e = c.moved.ensures.cover in
    let l = length-set (vec_items c.args.self.now.accounts) c.args.place c.moved.result in
    let some = c.args.self.now.some in
    let few = c.args.self.now.few in
    let known = c.args.self.now.known in
    let t = paid_total g.A.Account.cover_in (vec_items c.args.self.now.accounts) c.args.place c.args.amount c.in_ok-pay_in_answer.field-0
    (sym c.in_ok-pay_in_answer.was ∙ c.pay_in_answer.ensures) c.index.result.now c.index.ensures c.moved.result (omega (arith, ints)) in
    let m = (room_for (map g.A.Account.cover_in (vec_items c.args.self.now.accounts)) c.args.place c.args.amount c.in_ok-pay_in_answer.field-0
    (sym c.in_ok-pay_in_answer.was ∙ c.pay_in_answer.ensures)).room in
    record {
      some = omega arith;
      few = omega arith;
      known = omega arith;
      bounded = omega arith;
    }

pub returns-clause-covers_after : goal.returns-clause-covers_after
returns-clause-covers_after g c =
    let r = paid_room g.A.Account.cover_in (vec_items c.args.self.now.accounts) c.args.place c.args.amount c.in_ok-pay_in_answer.field-0
    (sym c.in_ok-pay_in_answer.was ∙ c.pay_in_answer.ensures) c.index.result.now c.index.ensures in
    let e = c.moved.ensures.cover in
    paid_covers g.A.Account.cover_in (vec_items c.args.self.now.accounts) c.args.place c.args.amount c.in_ok-pay_in_answer.field-0
    (sym c.in_ok-pay_in_answer.was ∙ c.pay_in_answer.ensures) c.index.result.now c.index.ensures c.moved.result (omega (arith, ints))

pub returns-clause-pledges_stay : goal.returns-clause-pledges_stay
returns-clause-pledges_stay g c =
    map-set_same g.A.Account.pledge_in (vec_items c.args.self.now.accounts) c.args.place c.moved.result c.index.result.now
    (c.moved.ensures.pledge ∙ ap g.A.Account.pledge_in c.index.ensures)
