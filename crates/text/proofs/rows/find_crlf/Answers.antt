use Rattle.std.proofs.Common.{length, unwrap_or, ap, ◌∙◌, rules, tests}
use Rattle.std.proofs.lemmas.Iterator.Search.{position_from_yields_List}
use Rattle.text.proofs.Pairs.{pairs_list, ends, crlf_found}
use Rattle.text.proofs.rows.find_crlf.Goals as goal

pub returns : goal.returns
returns c =
    c.unwrap_or.ensures ∙ ap (λ o. unwrap_or o (length c.args.s.now))
    (position_from_yields_List ends _ _ _ c.position.ensures.ran (pairs_list c.args.s.now c.windows.ensures.rest c.windows.ensures.size) (λ x b q k. search (rules, tests)))
    ∙ crlf_found c.args.s.now
