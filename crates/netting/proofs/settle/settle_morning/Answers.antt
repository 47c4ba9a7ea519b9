use Rattle.std.proofs.Common.{Ok, Err, refl, ap, ◌∙◌, rules}
use Rattle.netting.proofs.Settles.{morning_known}
use Rattle.netting.proofs.settle.settle_morning.Goals as goal

pub returns-in_default-denial : goal.returns-in_default-denial
returns-in_default-denial g c =
    let all = c.all-selected.ensures.there in
    let there = c.offers.invariant.there in
    let same = c.offers.invariant.unaltered in
    record {
      settled =
          morning_known c.offers.selected _ _ _ _ _ _ _ _ (Err c.in-Err.denial) there.of (there.houses ∙ (all.houses ∙ c.requires.houses)) c.positions.ensures
          (ap g.K.Keeper.covers same) (ap g.K.Keeper.sittings same) c.in-Err.ensures.answer c.in-Err.ensures.covers_after
          c.in-Err.ensures.sittings_after c.offers.selected.marks.now refl c.offers.invariant.standing (λ p k e. c.in_default-denial.not-Short p k (cc));
      denial_alters_nothing = λ d. c.in-Err.ensures.denial_alters_nothing d ∙ same;
      positions = search rules;
    }

pub returns-clause-settled : goal.returns-clause-settled
returns-clause-settled g c =
    let all = c.all-selected.ensures.there in
    let there = c.offers.invariant.there in
    let same = c.offers.invariant.unaltered in
    morning_known c.offers.selected _ _ _ _ _ _ _ _ (Ok tt) there.of (there.houses ∙ (all.houses ∙ c.requires.houses)) c.positions.ensures
    (ap g.K.Keeper.covers same) (ap g.K.Keeper.sittings same) c.in_default.ensures.answer c.in_default.ensures.covers_after
    c.in_default.ensures.sittings_after _ (search rules) c.offers.invariant.standing (λ p k e. absurd (cc))
