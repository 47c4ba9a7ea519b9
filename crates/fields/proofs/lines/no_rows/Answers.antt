use Rattle.std.proofs.Common.{◌≡◌, ◌==◌, ℕ, List, [], ◌∷◌, length, refl, sym, ap, ◌∙◌, arith}
use Rattle.std.proofs.Math.Dec.{eqb-suc-zero}
use Rattle.text.specs.Rows.{rows_of}
use Rattle.text.proofs.Cuts.{rows_cut}
use Rattle.fields.proofs.lines.no_rows.Goals as goal

-- a text has no row exactly where it has no byte
rows_none : (t : List ℕ) → (length (rows_of t) == 0) ≡ (length t == 0)
rows_none [] = refl
rows_none (b ∷ t) = ap (λ rs. length rs == 0) (rows_cut (b ∷ t) (omega arith)) ∙ eqb-suc-zero _ ∙ sym (eqb-suc-zero (length t))

pub returns : goal.returns
returns c = c.is_empty.ensures ∙ sym (rows_none c.args.bytes.now)
