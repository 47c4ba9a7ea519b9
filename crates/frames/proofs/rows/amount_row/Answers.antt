use Rattle.std.proofs.Common.{refl, rules, tests}
use Rattle.std.proofs.lemmas.Iterator.Search.{find_from_yields_List}
use Rattle.std.proofs.lemmas.Iterator.Consumers.{YieldsList-from_first}
use Rattle.frames.specs.Fixed.{amount_tag, begins}
use Rattle.frames.specs.Rows.{ended_rows}
use Rattle.frames.proofs.Rowing.{seen_row, rows_law}
use Rattle.frames.proofs.rows.amount_row.Goals as goal

pub returns-clause-told : goal.returns-clause-told
returns-clause-told c =
    let rows = ended_rows c.args.content.now in
    seen_row _ _ (find_from_yields_List (begins amount_tag) c.find.new.self _ _ c.find.ensures.ran (YieldsList-from_first (λ row. row.now) (λ s. ended_rows s.rest.now) rows refl) (λ x b q k. search (rules, tests)))

pub returns-clause-law : goal.returns-clause-law
returns-clause-law c = rows_law
