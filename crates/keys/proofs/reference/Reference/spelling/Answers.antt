use Rattle.std.proofs.Common.{ap, ◌∙◌}
use Rattle.keys.specs.Texts.{reference_form}
use Rattle.keys.proofs.Packs.{same_from_spelled}
use Rattle.keys.specs.Same.{reference_same}
use Rattle.keys.proofs.reference.Reference.spelling.Goals as goal

pub returns : goal.returns
returns c =
    let q = c.args.self in
    let text = c.spell.ensures in
    record {
      text = text;
      formed = ap reference_form text ∙ q.formed;
      alone = λ other e. reference_same other q (same_from_spelled other.code q.code (e ∙ text));
    }
