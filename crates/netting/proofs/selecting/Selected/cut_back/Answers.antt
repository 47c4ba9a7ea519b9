use Rattle.std.proofs.Common.{◌≡◌, length, inl, inr, arith}
use Rattle.std.specs.Slice.Iter.{iter_rest}
use Rattle.std.proofs.lemmas.Grind.{common_steps}
use Rattle.netting.proofs.Cuts.{front_ahead, last_below, last_at, some_by}
use Rattle.netting.proofs.selecting.Selected.cut_back.Goals as goal

pub leave-requires-clause-latest : goal.leave-requires-clause-latest
leave-requires-clause-latest c =
    let steps = c.in-Some.ensures.steps in
    let at = last_at _ _ _ _ steps.1.0 c.walk.invariant.ahead in
    let here : c.in-Some.i ≡ length (iter_rest c.next.new.self.iter.iter) = grind (arith, common_steps) in
    rw (here, c.walk.invariant.there.of) (record {
      here = last_below _ _ _ _ steps.1.0 c.walk.invariant.ahead;
      held = grind (arith, common_steps);
      his = grind (arith, common_steps);
      last = grind (arith, common_steps);
    })

pub walk-preserved-then-r-house : goal.walk-preserved-then-r-house
walk-preserved-then-r-house c =
    let steps = c.in-Some.ensures.steps in
    let less = rw c.walk.invariant.there.of at c.leave.ensures.fewer in
    record {
      ahead = front_ahead _ _ _ _ steps.1.0 c.walk.invariant.ahead;
      from_0 = grind (arith, common_steps);
      there = grind (arith, common_steps);
      nothing_lost = λ covers l e held. rw c.walk.invariant.there.of at c.leave.ensures.nothing_lost covers l e (c.walk.invariant.nothing_lost covers l e held);
      fewer = inl (elim c.walk.invariant.fewer [ inl before ↦ omega arith | inr same ↦ rw same at less ]);
      none = grind (arith, common_steps);
    }

pub walk-preserved : goal.walk-preserved
walk-preserved c =
    let steps = c.in-Some.ensures.steps in
    let before = c.walk.invariant in
    record {
      ahead = front_ahead _ _ _ _ steps.1.0 before.ahead;
      from_0 = grind (arith, common_steps);
      there = before.there;
      nothing_lost = before.nothing_lost;
      fewer = before.fewer;
      none = grind (arith, common_steps);
    }

pub returns-clause-within : goal.returns-clause-within
returns-clause-within c lacks =
    let e = c.walk.invariant.there.houses in
    let steps = c.in-None.ensures.steps in
    some_by _ _ _ _ c.walk.self.in_step c.args.house c.args.cover (omega arith) lacks
    (rw c.walk.invariant.there.of (λ i l. c.walk.invariant.none i (omega arith)))

pub returns-clause-fewer : goal.returns-clause-fewer
returns-clause-fewer c lacks =
    elim c.walk.invariant.fewer [
      | inl less ↦ less
      | inr same ↦ absurd (returns-clause-within c (rw same lacks))
    ]
