use Rattle.std.proofs.Common.{sym, ap, ◌∙◌}
use Rattle.keys.specs.Texts.{reference_form}
use Rattle.keys.proofs.Forms.{reference_plain, formed_read}
use Rattle.keys.proofs.reference.Reference.read.Goals as goal

pub packed-requires : goal.packed-requires
packed-requires c =
    let plain = reference_plain c.args.text.now (sym c.if-not-is_reference.ensures) in
    record { short = plain.0; plain = plain.1 }

pub invariant_of-result : goal.invariant_of-result
invariant_of-result c = record { formed = ap reference_form c.packed.ensures ∙ sym c.if-not-is_reference.ensures }

pub returns : goal.returns
returns c = formed_read reference_form c.args.text.now c.packed.result c.packed.ensures (sym c.if-not-is_reference.ensures)
