-- What a walk begins with: the fields of a formed text, of which there are some. Assumes nothing.
use Rattle.std.proofs.Common.{◌≡◌, ℕ, Bool, true, false, cond, not, eqb, List, [], ◌∷◌, length, Some, None, Option, sym, refl, ap, ◌∙◌}
use Rattle.std.proofs.Math.Dec.{eqb-suc-zero}
use Rattle.std.proofs.lemmas.Bool.{and_parts, cond-true}
use Rattle.text.specs.Rows.{rows_of}
use Rattle.text.specs.Tags.{is_tag}
use Rattle.text.specs.Texts.{row_formed, rows_formed, opens, good, formed}
use Rattle.cuts.proofs.Puts.{first_tag}
use Rattle.cuts.specs.Cuts.{fields_of}
use Rattle.cuts.specs.Fields.{parts_in, fields_left}
use Rattle.cuts.specs.declared.tagged.Fields.{Fields}
use Rattle.cuts.specs.declared.tagged.Tagged.{Tagged}
use Rattle.std.specs.Iterator.{YieldsFirstBy}
use Rattle.orders.specs.Orders.{fields_in}
use Rattle.orders.specs.ToCome.{with_next}

some_rows : (rs : List (List ℕ)) → rows_formed rs ≡ true → opens rs ≡ true → eqb (length (fields_of rs)) 0 ≡ false
some_rows [] f o = sym o
some_rows (r ∷ rs) f o = ap (λ l. eqb (length l) 0) (cond-true (is_tag r) _ _ (first_tag r rs (and_parts (row_formed r) (rows_formed rs) f).0 o)) ∙ eqb-suc-zero (length (fields_of rs))

by_form : (t : List ℕ) (b : Bool) → formed t ≡ b → eqb (length (cond b (fields_of (rows_of t)) [])) 0 ≡ not b
by_form t false e = refl
by_form t true e =
    let p = and_parts (good t) (opens (rows_of t)) e in
    some_rows (rows_of t) (and_parts _ (rows_formed (rows_of t)) p.0).1 p.1

pub some : (t : List ℕ) → eqb (length (fields_in t)) 0 ≡ not (formed t)
some t = by_form t (formed t) refl

pub fields_if : (t : List ℕ) (b : Bool) → fields_of (rows_of (cond b t [])) ≡ cond b (fields_of (rows_of t)) []
fields_if t true = refl
fields_if t false = refl

-- the field at hand before those that are left is what was to come
pub with_next_is : (r : Option Tagged) (s t : Fields) → YieldsFirstBy parts_in fields_left s r t → with_next r (fields_left t) ≡ fields_left s
with_next_is None s t e = sym e.0
with_next_is (Some f) s t e = sym e
