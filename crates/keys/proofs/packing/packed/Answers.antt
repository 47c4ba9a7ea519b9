use Rattle.std.proofs.Common.{ℕ, ap, ◌∙◌, arith}
use Rattle.std.specs.Int.Digits.{number_from_digits}
use Rattle.std.proofs.lemmas.Int.Digits.{number_more}
use Rattle.std.proofs.lemmas.List.{take_all}
use Rattle.keys.proofs.Packs.{Bytes, number_room, spelled_same}
use Rattle.keys.proofs.packing.packed.Goals as goal

pub overflow_mul-n : goal.overflow_mul-n
overflow_mul-n c =
    let t = c.args.text.now in
    let i : ℕ = c.loop-b.b-index in
    let bytes : Bytes t = λ k _. omega (arith, c.type_inv.text k) in
    let room = number_room t bytes c.requires.short i c.loop-b-test.true in
    omega (arith, c.loop-b.invariant)

pub overflow_add-n : goal.overflow_add-n
overflow_add-n c =
    let t = c.args.text.now in
    let i : ℕ = c.loop-b.b-index in
    let bytes : Bytes t = λ k _. omega (arith, c.type_inv.text k) in
    let room = number_room t bytes c.requires.short i c.loop-b-test.true in
    omega (arith, c.loop-b.invariant)

pub loop-b-preserved : goal.loop-b-preserved
loop-b-preserved c =
    let step = number_more 256 c.args.text.now c.loop-b.b-index c.loop-b-test.true in
    omega (arith, c.loop-b.invariant)

pub returns : goal.returns
returns c =
    let t = c.args.text.now in
    let bytes : Bytes t = λ k _. omega (arith, c.type_inv.text k) in
    let all = take_all c.loop-b.b-index t c.loop-b-test.false in
    spelled_same t c.loop-b.n bytes c.requires.plain (c.loop-b.invariant ∙ ap (number_from_digits 256) all)
