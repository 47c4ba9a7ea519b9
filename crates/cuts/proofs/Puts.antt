-- The fields of a text put together. Assumes nothing.
use Rattle.std.proofs.Common.{◌≡◌, ℕ, ◌+◌, ◌≤◌, Bool, true, false, cond, List, [], ◌∷◌, ◌++◌, length, drop, Some, None, Option, sym, refl, ap, ◌∙◌, arith}
use Rattle.std.specs.List.{flat_map}
use Rattle.std.proofs.lemmas.List.{length-append}
use Rattle.std.proofs.lemmas.Bool.{and_parts, cond-true}
use Rattle.std.proofs.lemmas.Bool.Decides.{nat_tests}
use Rattle.text.specs.Rows.{rows_of}
use Rattle.text.specs.Tags.{is_tag, tag_in, tag_size, size_by, tag_text, ending}
use Rattle.text.proofs.TagTexts.{tag_row}
use Rattle.text.specs.Texts.{row_formed, rows_formed, opens, good}
use Rattle.cuts.specs.Cuts.{untagged, fields_of, put_field, FieldLaw}

length_ending : (o : Option ℕ) → 3 + length (ending o) ≡ size_by o
length_ending None = refl
length_ending (Some l) = refl

-- a row that begins with a tag is at least as long as the tag
pub tag_fits : (r : List ℕ) → is_tag r ≡ true → tag_size (tag_in r) ≤ length r
tag_fits r h =
    let n : length (tag_text (tag_in r)) + length (drop (tag_size (tag_in r)) r) ≡ length r = simp length-append at (ap length (tag_row r h)) in
    let m = length_ending (tag_in r).letter in
    omega arith

put_by : (r : List ℕ) (rs : List (List ℕ)) (v : Bool) → is_tag r ≡ v → untagged rs ++ flat_map put_field (fields_of rs) ≡ rs
    → cond v [] (r ∷ untagged rs) ++ flat_map put_field (cond v (record { tag = tag_in r; rows = drop (tag_size (tag_in r)) r ∷ untagged rs } ∷ fields_of rs) (fields_of rs)) ≡ r ∷ rs
put_by r rs true e ih = let x = tag_row r e in λ i. x i ∷ ih i
put_by r rs false e ih = ap (λ l. r ∷ l) ih

put_all : (rs : List (List ℕ)) → untagged rs ++ flat_map put_field (fields_of rs) ≡ rs
put_all [] = refl
put_all (r ∷ rs) = put_by r rs (is_tag r) refl (put_all rs)

-- the first row of a formed text is a tag's
pub first_tag : (r : List ℕ) (rs : List (List ℕ)) → row_formed r ≡ true → opens (r ∷ rs) ≡ true → is_tag r ≡ true
first_tag r rs f o = grind (arith, nat_tests)

none_before : (rs : List (List ℕ)) → rows_formed rs ≡ true → opens rs ≡ true → untagged rs ≡ []
none_before [] f o = refl
none_before (r ∷ rs) f o = cond-true (is_tag r) [] (r ∷ untagged rs) (first_tag r rs (and_parts (row_formed r) (rows_formed rs) f).0 o)

pub field_law : FieldLaw
field_law t h =
    let p = and_parts (good t) (opens (rows_of t)) h in
    let q = and_parts _ (rows_formed (rows_of t)) p.0 in
    sym (ap (λ l. l ++ flat_map put_field (fields_of (rows_of t))) (none_before (rows_of t) q.1 p.1)) ∙ put_all (rows_of t)
