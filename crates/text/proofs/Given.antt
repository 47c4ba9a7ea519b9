-- What the iterator over rows gives, as a list. Assumes nothing.
use Rattle.std.proofs.Common.{◌≡◌, List, ℕ, length, ap, subst}
use Rattle.std.proofs.lemmas.Iterator.{YieldsList}
use Rattle.std.proofs.lemmas.Iterator.Consumers.{YieldsList-from_shown}
use Rattle.text.specs.declared.rows.Rows.{Rows}
use Rattle.text.specs.Rows.{rows_of, rows_left}
use Rattle.text.specs.Texts.{GivesRow}

-- the rows that are left, for the lemmas on chains of iterators
pub rows_list : {s : Rows} (rows : List (List ℕ)) → rows_of s.rest.now ≡ rows → YieldsList GivesRow (λ row. row.now) s rows
rows_list {s} rows e =
    let all = YieldsList-from_shown GivesRow (λ row. row.now) rows_left (λ s t g. ap length g.rows.0) (λ s x t g. g.rows) s in
    subst (λ rows. YieldsList GivesRow (λ row. row.now) s rows) e all
