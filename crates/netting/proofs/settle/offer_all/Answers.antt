use Rattle.std.proofs.Common.{refl, ◌∙◌}
use Rattle.netting.proofs.Settles.{whole_known}
use Rattle.netting.proofs.settle.offer_all.Goals as goal

pub returns-clause-offered : goal.returns-clause-offered
returns-clause-offered g c =
    let there = c.all-selected.ensures.there in
    whole_known c.all-selected.result _ _ _ _ _ _ _ _ _ there.of (there.houses ∙ c.requires.houses) c.positions.ensures refl refl
    c.offer.ensures.answer c.offer.ensures.covers_after c.offer.ensures.sittings_after c.all-selected.ensures.all
