use Rattle.std.proofs.Common.{ℕ, length, map, sym, subst, ap, ◌∙◌, arith}
use Rattle.std.proofs.Math.Seq.{map-set_same}
use Rattle.std.proofs.lemmas.Int.{ints}
use Rattle.std.proofs.lemmas.List.{length-map, take_all}
use Rattle.keeper.specs.Covers.{total}
use Rattle.keeper.specs.Offers.{Sound, add_each}
use Rattle.books.proofs.Moving.{next_room, one_more}
use Rattle.books.proofs.Totals.{total_added}
use Rattle.books.proofs.account.add_each.Goals as goal

pub moved-requires : goal.moved-requires
moved-requires g c =
    let w = c.requires.sound.within c.loop-place.place c.loop-place-test.true in
    let r = next_room g.A.Account.cover_in c.args.accounts.now c.loop-place.accounts c.args.positions.now c.loop-place.place c.index-accounts-place.result
    c.loop-place.auto.accounts c.requires.sound c.requires.enough c.loop-place.invariant.0 c.loop-place-test.true c.index-accounts-place.is c.requires.bounded in
    record { enough = omega (arith, ints); room = omega (arith, ints) }

pub loop-place-preserved : goal.loop-place-preserved
loop-place-preserved g c =
    let w = c.requires.sound.within c.loop-place.place c.loop-place-test.true in
    let e = c.moved.ensures.cover in (
      one_more g.A.Account.cover_in c.args.accounts.now c.loop-place.accounts c.args.positions.now c.loop-place.place c.index-accounts-place.result
          c.loop-place.auto.accounts c.requires.sound c.requires.enough c.loop-place.invariant.0 c.loop-place-test.true c.index-accounts-place.is
          c.moved.result (omega (arith, ints)),
      map-set_same g.A.Account.pledge_in c.loop-place.accounts c.loop-place.place c.moved.result c.index-accounts-place.result
          (c.moved.ensures.pledge ∙ ap g.A.Account.pledge_in c.index-accounts-place.is) ∙ c.loop-place.invariant.1,
    )

pub returns : goal.returns
returns g c =
    let n = length-map c.args.accounts.now g.A.Account.cover_in in
    let s : Sound (length (map g.A.Account.cover_in c.args.accounts.now)) c.args.positions.now = subst (λ (k : ℕ). Sound k c.args.positions.now) (sym n) c.requires.sound in
    let e = ap (add_each (map g.A.Account.cover_in c.args.accounts.now)) (take_all c.loop-place.place c.args.positions.now (let t = c.loop-place-test.false in omega arith)) in
    let covers = c.loop-place.invariant.0 ∙ e in
    record {
      covers = covers;
      together = ap total covers ∙ total_added (map g.A.Account.cover_in c.args.accounts.now) c.args.positions.now s c.requires.enough;
      pledges = c.loop-place.invariant.1;
    }
