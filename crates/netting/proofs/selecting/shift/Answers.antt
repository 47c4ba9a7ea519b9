use Rattle.std.proofs.Common.{get_or, ℤ, pos, ◌-ℤ◌, inl, inr, arith, w64, to_z, of_z}
use Rattle.std.proofs.lemmas.Int.{ints}
use Rattle.netting.proofs.Shifts.{shifted, set_at}
use Rattle.netting.proofs.selecting.shift.Goals as goal

pub overflow_add-positions : goal.overflow_add-positions
overflow_add-positions c =
    let a = c.requires.within c.args.from c.requires.from in
    let b = c.requires.within c.args.to c.requires.to in
    let u : ℤ = to_z w64 (of_z w64 (to_z w64 (of_z w64 (get_or c.args.positions.now c.args.from (pos 0))) -ℤ to_z w64 c.args.amount)) in
    elim (set_at c.args.positions.now c.args.from c.args.to u c.requires.from) [ inl e ↦ omega (arith, ints) | inr e ↦ omega (arith, ints) ]

pub returns : goal.returns
returns c =
    let a = c.requires.within c.args.from c.requires.from in
    let b = c.requires.within c.args.to c.requires.to in
    let u : ℤ = to_z w64 (of_z w64 (to_z w64 (of_z w64 (get_or c.args.positions.now c.args.from (pos 0))) -ℤ to_z w64 c.args.amount)) in
    shifted c.args.positions.now c.args.from c.args.to c.args.amount u _ c.requires.from c.requires.to
    (omega (arith, ints))
    (elim (set_at c.args.positions.now c.args.from c.args.to u c.requires.from) [ inl e ↦ omega (arith, ints) | inr e ↦ omega (arith, ints) ])
