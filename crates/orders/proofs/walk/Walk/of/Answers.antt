use Rattle.std.proofs.Common.{◌≡◌, eqb, length, ap, ◌∙◌}
use Rattle.text.specs.Rows.{rows_of}
use Rattle.text.specs.Texts.{formed}
use Rattle.cuts.specs.Cuts.{fields_of}
use Rattle.orders.specs.Orders.{fields_in}
use Rattle.orders.specs.ToCome.{to_come}
use Rattle.orders.proofs.Placed.{order_law}
use Rattle.orders.proofs.Some.{some, fields_if, with_next_is}
use Rattle.orders.proofs.walk.Walk.of.Goals as goal

pub returns : goal.returns
returns c =
    let all : to_come (record { next = c.next-next.result; after = c.next-next.new.self }) ≡ fields_in c.args.text.now =
    with_next_is c.next-next.result c.of-after.result c.next-next.new.self c.next-next.ensures.steps.fields ∙ ap (λ t. fields_of (rows_of t)) c.of-after.ensures.all ∙ fields_if c.args.text.now (formed c.args.text.now) in
    record { all = all; some = ap (λ l. eqb (length l) 0) all ∙ some c.args.text.now; law = order_law }
