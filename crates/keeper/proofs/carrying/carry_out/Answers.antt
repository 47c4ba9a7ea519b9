use Rattle.std.proofs.Common.{◌≢◌, ◌∙◌, length, arith, length-set}
use Rattle.std.proofs.Math.Nat.{min-eq_left, min-eq_right}
use Rattle.std.proofs.lemmas.List.{get_or-set_other}
use Rattle.keeper.proofs.Accounts.{ran_more, carried}
use Rattle.keeper.proofs.carrying.carry_out.Goals as goal

pub loop-place-preserved : goal.loop-place-preserved
loop-place-preserved g c =
    let s = c.loop-place-test.true in
    let a = c.if-place-answers.false in (
      ran_more _ (record { covers = g.K.Keeper.covers c.loop-place.keeper; sittings = g.K.Keeper.sittings c.loop-place.keeper }) _
          c.args.steps.now c.loop-place.answers c.loop-place.place c.act.result _ s a c.loop-place.invariant.0 c.act.ensures.does,
      λ k d h. let ne : k ≢ c.loop-place.place = λ q. absurd (omega arith) in
          get_or-set_other c.loop-place.answers c.loop-place.place k c.act.result d ne ∙ c.loop-place.invariant.1 k d (omega arith),
      (let l = length-set c.loop-place.answers c.loop-place.place c.act.result in omega arith),
    )

pub returns : goal.returns
returns g c =
    let e = c.loop-place.auto in
    let f = c.loop-place-test.false in
    let w = c.loop-place.invariant.2 in
    let m = min-eq_left {n = length c.args.steps.now} {m = length c.args.answers.now} (omega arith) in
    record {
      carried = carried _ _ c.args.steps.now c.loop-place.answers c.loop-place.place _ (omega arith) c.loop-place.invariant.0;
      rest_stays = λ k d h. c.loop-place.invariant.1 k d (omega arith);
    }

pub returns-then-place-answers : goal.returns-then-place-answers
returns-then-place-answers g c =
    let e = c.loop-place.auto in
    let s = c.loop-place-test.true in
    let a = c.if-place-answers.true in
    let w = c.loop-place.invariant.2 in
    let m = min-eq_right {n = length c.args.answers.now} {m = length c.args.steps.now} (omega arith) in
    record {
      carried = carried _ _ c.args.steps.now c.loop-place.answers c.loop-place.place _ (omega arith) c.loop-place.invariant.0;
      rest_stays = λ k d h. c.loop-place.invariant.1 k d (omega arith);
    }
