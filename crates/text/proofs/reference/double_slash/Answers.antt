use Rattle.std.proofs.Common.{get_or, ◌∙◌, rules, tests}
use Rattle.std.proofs.lemmas.Iterator.Search.{any_from_yields_List}
use Rattle.text.specs.Reference.{pair}
use Rattle.text.proofs.Pairs.{pairs_list, doubled_pairs}
use Rattle.text.proofs.reference.double_slash.Goals as goal

pub returns : goal.returns
returns c =
    any_from_yields_List (λ w. pair (get_or w 0 0) (get_or w 1 0)) _ _ _ c.any.ensures.ran (pairs_list c.args.s.now c.windows.ensures.rest c.windows.ensures.size) (λ x b q k. search (rules, tests))
    ∙ doubled_pairs c.args.s.now
