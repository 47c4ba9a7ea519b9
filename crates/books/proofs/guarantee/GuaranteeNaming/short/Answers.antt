use Rattle.std.proofs.Common.{map, arith, w64, to_z}
use Rattle.std.proofs.lemmas.Int.{ints}
use Rattle.std.proofs.lemmas.List.{length-map}
use Rattle.keeper.specs.Offers.{moved}
use Rattle.books.proofs.Moving.{cover_at}
use Rattle.books.proofs.Worse.{keeps, takes, all_of, worst_if_short}
use Rattle.books.proofs.guarantee.GuaranteeNaming.short.Goals as goal
use Rattle.books.proofs.guarantee.GuaranteeNaming.short.Goals.{then-here-least, else-here-least}

pub loop-place-preserved : goal.loop-place-preserved
loop-place-preserved c =
    let t = c.loop-place-test.true in
    let long = c.requires.sound.long in
    let covers = map (λ a. moved a.pledge a.sum) c.args.guarantees.now in
    let n = length-map c.args.guarantees.now (λ a. moved a.pledge a.sum) in
    let a = cover_at (λ a. moved a.pledge a.sum) c.args.guarantees.now c.loop-place.place c.index-guarantees-place.result c.index-guarantees-place.is (omega arith) in
    let p = c.requires.sound.within c.loop-place.place (omega arith) in
    let x = c.left-here.ensures in
    let y = c.loop-place.invariant.1 in
    elim c.if-here-least.branch [
      | then-here-least w ↦
          let less = w.if-here-least.true in
          let e = w.worst-is in
          let l = w.least-is in
          simp (e, l) (takes covers c.args.positions.now c.loop-place.place c.loop-place.worst (omega arith) c.loop-place.invariant.0 (omega (arith, ints)), omega (arith, ints))
      | else-here-least w ↦
          let less = w.if-here-least.false in
          let e = w.worst-is in
          let l = w.least-is in
          simp (e, l) (keeps covers c.args.positions.now c.loop-place.place c.loop-place.worst c.loop-place.invariant.0 (omega (arith, ints)), y)
    ]

pub returns : goal.returns
returns c =
    let f = c.loop-place-test.false in
    let e = c.loop-place.auto in
    let long = c.requires.sound.long in
    let covers = map (λ a. moved a.pledge a.sum) c.args.guarantees.now in
    let n = length-map c.args.guarantees.now (λ a. moved a.pledge a.sum) in
    let i = c.loop-place.invariant in
    worst_if_short covers c.args.positions.now c.loop-place.worst c.then_some.result (to_z w64 c.loop-place.least-bits)
    (all_of covers c.args.positions.now c.loop-place.place c.loop-place.worst (omega arith) i.0)
    i.1 c.then_some.ensures
