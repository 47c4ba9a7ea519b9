-- A second row after one that passes. Assumes nothing.
use Rattle.std.proofs.Common.{◌≡◌, ℕ, Bool, true, false, not, eqb, ltb, List, ◌∷◌, length, Some, None, Option, Bor, ap, ◌∙◌, sym, arith}
use Rattle.std.specs.Option.{unwrap_or}
use Rattle.std.proofs.lemmas.Bool.{both_ways}
use Rattle.std.proofs.lemmas.Bool.Decides.{nat_tests}
use Rattle.text.specs.Rows.{rows_of}
use Rattle.text.specs.Texts.{GivesRow}
use Rattle.text.specs.declared.rows.Rows.{Rows}
use Rattle.fields.specs.Faults.{when}
use Rattle.fields.specs.Single.{lone}

more_than_one : (r : List ℕ) (rs : List (List ℕ)) → ltb 1 (length (r ∷ rs)) ≡ not (eqb (length rs) 0)
more_than_one r rs = grind (arith, nat_tests)

pub second : (test : List ℕ → Bool) (s t : Rows) (next : Option (Bor (List ℕ))) (row none : Bor (List ℕ)) → GivesRow s next t → row ≡ unwrap_or next none
    → test row.now ≡ true → eqb (length (rows_of t.rest.now)) 0 ≡ false → lone test (rows_of s.rest.now) ≡ Some 2
second test s t None row none gives is passes more = absurd (both_ways (eqb (length (rows_of t.rest.now)) 0) more (ap (λ l. eqb (length l) 0) gives.rows.1))
second test s t (Some x) row none gives is passes more =
    rw gives.rows (rw (ap (λ r. test r.now) (sym is) ∙ passes) (ap (λ b. when b 2) (more_than_one x.now (rows_of t.rest.now) ∙ ap not more)))
