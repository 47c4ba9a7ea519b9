use Rattle.std.proofs.Common.{sym, ap, ◌∙◌, arith}
use Rattle.std.specs.Option.{option_copied}
use Rattle.std.proofs.lemmas.Grind.{common_steps}
use Rattle.script.specs.Commands.{space}
use Rattle.script.specs.Words.{words_left}
use Rattle.script.proofs.Cuts.{place_within, first_cut}
use Rattle.script.proofs.words.WordsIterator.next.Goals as goal

pub split_at-requires : goal.split_at-requires
split_at-requires c = rw c.find.ensures (place_within _ _)

pub returns-clause-steps : goal.returns-clause-steps
returns-clause-steps c =
    sym c.self.view_is
    ∙ ap (λ o. words_left space (option_copied o)) c.in_ok-text.was
    ∙ first_cut _ _ _ _ _ _ c.find.ensures c.split_at.ensures.front c.split_at.ensures.back c.get-self-inside.ensures.lookup

pub returns-clause-goes : goal.returns-clause-goes
returns-clause-goes c =
    let e = returns-clause-steps c in grind (arith, common_steps)
