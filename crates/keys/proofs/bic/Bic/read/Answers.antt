use Rattle.std.proofs.Common.{◌^◌, ◌<◌, length, sym, ap, ◌∙◌, subst, arith}
use Rattle.codes.specs.Bics.{bic_formed}
use Rattle.keys.proofs.Forms.{bic_plain, formed_read}
use Rattle.keys.proofs.Spelled.{spelled_lt}
use Rattle.keys.proofs.bic.Bic.read.Goals as goal

pub packed-requires : goal.packed-requires
packed-requires c =
    let plain = bic_plain c.args.text.now (sym c.if-not-is_bic.ensures) in
    record { short = omega (arith, plain.0); plain = plain.1 }

pub overflow_cast-result : goal.overflow_cast-result
overflow_cast-result c =
    let n = c.packed.result in
    let size = ap length c.packed.ensures ∙ (bic_plain c.args.text.now (sym c.if-not-is_bic.ensures)).0 in
    let under : n < 256 ^ 8 = subst (λ l. n < 256 ^ l) size (spelled_lt n) in
    omega arith

pub invariant_of-result : goal.invariant_of-result
invariant_of-result c = record { formed = ap bic_formed c.packed.ensures ∙ sym c.if-not-is_bic.ensures }

pub returns : goal.returns
returns c = formed_read bic_formed c.args.text.now c.packed.result c.packed.ensures (sym c.if-not-is_bic.ensures)
