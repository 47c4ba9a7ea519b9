use Rattle.std.proofs.Common.{ℕ, Bool, eqb, drop, ap, ◌∙◌, arith, rules, tests}
use Rattle.std.specs.List.{prefix_len}
use Rattle.std.proofs.lemmas.Iterator.{YieldsList-from_slice}
use Rattle.std.proofs.lemmas.Iterator.Consumers.{count_from_yields_List}
use Rattle.std.proofs.lemmas.Iterator.Search.{YieldsList-from_take_while}
use Rattle.std.proofs.lemmas.List.Folds.{length-prefix_len}
use Rattle.keys.proofs.Spelled.{rest_spelled}
use Rattle.keys.proofs.spelling.spell.Goals as goal

pub returns : goal.returns
returns c =
    let zero : ℕ → Bool = λ b. eqb b 0 in
    let bytes = c.to_be_bytes-bytes.result in
    let start = count_from_yields_List c.take_while.result _ c.count-start.ensures.ran (YieldsList-from_take_while _ zero (YieldsList-from_slice bytes (cc)) c.take_while.ensures.closure c.take_while.ensures.done (λ x b q k. search (rules, tests))) ∙ length-prefix_len zero bytes in
    ap (λ n. drop n bytes) start ∙ ap (λ bs. drop (prefix_len zero bs) bs) c.to_be_bytes-bytes.ensures ∙ rest_spelled 16 c.args.code (omega arith)
