use Rattle.std.proofs.Common.{take, ap, ◌∙◌}
use Rattle.text.specs.Chars.{belongs, every}
use Rattle.text.specs.declared.class.Class.TheVariants.{Digit}
use Rattle.files.proofs.StatedRows.{front_passes}
use Rattle.files.proofs.stated.stated_in.Goals as goal

pub count_of-requires : goal.count_of-requires
count_of-requires c = ap (every (belongs Digit)) (c.front.ensures ∙ ap (λ n. take n c.args.row.now) c.run-size.ensures) ∙ front_passes (belongs Digit) c.args.row.now
