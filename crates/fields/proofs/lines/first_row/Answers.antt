use Rattle.std.proofs.Common.{inl, inr, sym, ap, ◌∙◌, arith}
use Rattle.fields.specs.Lines.{first_row}
use Rattle.fields.proofs.lines.first_row.Goals as goal

pub returns : goal.returns
returns g c =
    let l = c.loop-n in
    elim c.in-None.ensures.steps [
      | inl top ↦ absurd (omega (arith, top.1.0, l.invariant.few))
      | inr none ↦ sym (ap (first_row g.bad l.n-iterator.a.start) none.1.rows.0) ∙ l.invariant.later
    ]
