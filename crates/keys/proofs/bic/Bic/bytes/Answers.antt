use Rattle.std.proofs.Common.{ap, ◌∙◌}
use Rattle.codes.specs.Bics.{bic_formed}
use Rattle.keys.specs.Held.{bic_text}
use Rattle.keys.specs.Same.{bic_same}
use Rattle.keys.proofs.Packs.{same_from_spelled}
use Rattle.keys.proofs.Forms.{bic_plain}
use Rattle.keys.proofs.Spelled.{counted_spelled}
use Rattle.keys.proofs.bic.Bic.bytes.Goals as goal

pub returns : goal.returns
returns c =
    let b = c.args.self in
    let text = c.to_be_bytes.ensures ∙ counted_spelled 7 b.code (bic_plain (bic_text b) b.formed).0 in
    record {
      text = text;
      formed = ap bic_formed text ∙ b.formed;
      alone = λ other e. bic_same other b (same_from_spelled other.code b.code (e ∙ text));
    }
