use Rattle.std.proofs.Common.{◌≡◌, Some, sym, subst, ◌∙◌}
use Rattle.text.specs.Rows.{rows_of}
use Rattle.fields.specs.Single.{lone}
use Rattle.fields.proofs.Seconds.{second}
use Rattle.fields.proofs.lone.lone.Goals as goal

pub returns : goal.returns
returns g c =
    let passes = sym (c.requires.1.1 _ _ c.if-not-passes.ensures) in
    subst (λ t. lone g.test (rows_of t) ≡ Some 2) c.new-rows.ensures (second g.test c.new-rows.result c.next.new.self c.next.result _ _ c.next.ensures.steps c.unwrap_or-row.ensures passes (sym c.no_rows.ensures ∙ c.if-no_rows.false))
