use Rattle.std.proofs.Common.{sym, ap, ◌∙◌, arith, rules}
use Rattle.text.specs.Rows.{rows_of}
use Rattle.cuts.proofs.Pieces.{tagged_here, passed, ended}
use Rattle.cuts.proofs.cutting.from_tag.Goals as goal
use Rattle.cuts.proofs.cutting.from_tag.Goals.{then-loop-rows-test+else-is_some, else-loop-rows-test}

pub loop-rows-preserved : goal.loop-rows-preserved
loop-rows-preserved c =
    let p = passed c.loop-rows.rows c.next.new.self c.next.result c.next.ensures.steps (sym c.is_some.ensures ∙ c.if-is_some.true) (search rules) in
    (p.0 ∙ c.loop-rows.invariant.0, (λ g. c.next.ensures.steps.formed (c.loop-rows.invariant.1 g)), omega arith)

pub returns-clause-rows : goal.returns-clause-rows
returns-clause-rows c = elim c.loop-rows-test.branch [
  | then-loop-rows-test+else-is_some w ↦ ap (λ r. rows_of r.rest.now) w.rows-is ∙ ended c.loop-rows.rows w.next.new.self w.next.result w.next.ensures.steps (sym w.is_some.ensures ∙ w.if-is_some.false) ∙ c.loop-rows.invariant.0
  | else-loop-rows-test w ↦ ap (λ r. rows_of r.rest.now) w.rows-is ∙ tagged_here c.loop-rows.rows.rest.now (search rules) ∙ c.loop-rows.invariant.0
]
