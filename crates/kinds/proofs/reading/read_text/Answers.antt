use Rattle.std.proofs.Common.{Err, sym, ap, ◌∙◌}
use Rattle.std.proofs.lemmas.Bool.{cond-true, cond-false, not-true, not-false}
use Rattle.text.specs.Texts.{formed}
use Rattle.kinds.proofs.reading.read_text.Goals as goal

pub returns-then-is_done : goal.returns-then-is_done
returns-then-is_done g c = ap (λ e. Err e) c.of_message.ensures ∙ sym (cond-false (formed c.args.header.text.now) _ _ (not-true _ (sym (c.if-is_done.ensures ∙ c.of-walk.ensures.some))))

pub returns : goal.returns
returns g c =
    c.read.ensures ∙ ap (λ fs. g.K.Kind.reads c.args.terms c.args.header.bic.now fs) c.of-walk.ensures.all
    ∙ sym (cond-true (formed c.args.header.text.now) _ _ (not-false _ (sym (c.if-is_done.ensures ∙ c.of-walk.ensures.some))))
