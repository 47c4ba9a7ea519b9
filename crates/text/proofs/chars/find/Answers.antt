use Rattle.std.proofs.Common.{length, unwrap_or, eqb, ap, ◌∙◌, rules, tests}
use Rattle.std.proofs.lemmas.Iterator.{YieldsList-from_slice}
use Rattle.std.proofs.lemmas.Iterator.Search.{position_from_yields_List}
use Rattle.text.proofs.Tests.{place_found}
use Rattle.text.proofs.chars.find.Goals as goal

pub returns : goal.returns
returns c =
    c.unwrap_or.ensures ∙ ap (λ o. unwrap_or o (length c.args.s.now))
    (position_from_yields_List (λ x. eqb x c.args.sought) _ _ _ c.position.ensures.ran (YieldsList-from_slice c.args.s.now (cc)) (λ x b q k. search (rules, tests)))
    ∙ place_found c.args.sought c.args.s.now
