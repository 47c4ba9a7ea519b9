use Rattle.std.proofs.Common.{◌≤◌, ◌∙◌, length, sym, arith}
use Rattle.values.proofs.Numbers.{part_read, part_none}
use Rattle.values.proofs.amounts.part.Goals.{in-0, in-1, in-2}
use Rattle.values.proofs.amounts.part.Goals as goal

pub returns-in_err-number-clause-exact : goal.returns-in_err-number-clause-exact
returns-in_err-number-clause-exact c =
    let few : length c.args.s.now ≤ 2 = elim c.match-s.branch [ in-0 w ↦ omega arith | in-1 w ↦ omega arith | in-2 w ↦ omega arith ] in
    c.from_residual.ensures ∙ sym (part_none c.args.s.now (sym c.number.ensures ∙ c.in_err-number.was) few)

pub overflow_mul-result : goal.overflow_mul-result
overflow_mul-result c =
    let few : length c.args.s.now ≤ 2 = elim c.match-s.branch [ in-0 w ↦ omega arith | in-1 w ↦ omega arith | in-2 w ↦ omega arith ] in
    let n = part_read c.args.s.now c.in_ok-number.field-0 (sym c.number.ensures ∙ c.in_ok-number.was) few in
    elim c.match-s.branch [ in-0 w ↦ rw w.scale-is (omega arith) | in-1 w ↦ rw w.scale-is (omega arith) | in-2 w ↦ rw w.scale-is (omega arith) ]

pub returns-clause-small : goal.returns-clause-small
returns-clause-small c =
    let few : length c.args.s.now ≤ 2 = elim c.match-s.branch [ in-0 w ↦ omega arith | in-1 w ↦ omega arith | in-2 w ↦ omega arith ] in
    let n = part_read c.args.s.now c.in_ok-number.field-0 (sym c.number.ensures ∙ c.in_ok-number.was) few in
    elim c.match-s.branch [ in-0 w ↦ rw w.scale-is (omega arith) | in-1 w ↦ rw w.scale-is (omega arith) | in-2 w ↦ rw w.scale-is (omega arith) ]
