use Rattle.std.proofs.Common.{eqb, sym, ap, ◌∙◌, rules, tests}
use Rattle.std.proofs.lemmas.Iterator.{YieldsList-from_slice}
use Rattle.std.proofs.lemmas.Iterator.Consumers.{count_from_yields_List}
use Rattle.std.proofs.lemmas.Iterator.Search.{YieldsList-from_take_while}
use Rattle.std.proofs.lemmas.List.Folds.{length-prefix_len}
use Rattle.values.specs.Digits.{needless}
use Rattle.values.proofs.Zeros.{zeros_in_front}
use Rattle.values.proofs.digits.needless.Goals as goal

pub returns : goal.returns
returns c =
    let front = c.in-Some.front.now in
    count_from_yields_List c.take_while.result _ c.count.ensures.ran (YieldsList-from_take_while _ (λ d. eqb d 48) (YieldsList-from_slice front (cc)) c.take_while.ensures.closure c.take_while.ensures.done (λ x b q k. search (rules, tests)))
    ∙ length-prefix_len (λ d. eqb d 48) front ∙ zeros_in_front front _ ∙ ap needless (sym c.in-Some.ensures.cases.0)
