-- The fields of a text: each tag's row begins one, which goes on to the next tag.
use Rattle.std.specs.Prelude.{◌≡◌, ℕ, Bool, true, cond, ◌&&◌, List, [], ◌∷◌, ◌++◌, drop}
use Rattle.std.specs.List.{flat_map}
use Rattle.text.specs.Rows.{rows_of}
use Rattle.text.specs.Tags.{is_tag, tag_in, tag_size, tag_text}
use Rattle.text.specs.Texts.{good, formed}
use Rattle.text.specs.declared.tag.Tag.{Tag}

-- the rows before the next tag
abbrev pub untagged : List (List ℕ) → List (List ℕ)
untagged [] = []
untagged (r ∷ rs) = cond (is_tag r) [] (r ∷ untagged rs)

-- the rows from the next tag on
abbrev pub tagged : List (List ℕ) → List (List ℕ)
tagged [] = []
tagged (r ∷ rs) = cond (is_tag r) (r ∷ rs) (tagged rs)

-- a field: its tag, and its rows, the first without the tag
pub record Parts : Type 0 where
  pub tag : Tag
  pub rows : List (List ℕ)

abbrev pub fields_of : List (List ℕ) → List Parts
fields_of [] = []
fields_of (r ∷ rs) = cond (is_tag r) (record { tag = tag_in r; rows = drop (tag_size (tag_in r)) r ∷ untagged rs } ∷ fields_of rs) (fields_of rs)

-- there is no row before the first tag
abbrev pub leads : List (List ℕ) → Bool
leads [] = true
leads (r ∷ rs) = is_tag r

-- formed rows that begin with a tag, or nothing
abbrev pub whole : List ℕ → Bool
whole t = good t && leads (rows_of t)

-- the rows of a field: its tag stands before the first
abbrev pub put_field : Parts → List (List ℕ)
put_field p = elim p.rows [ [] ↦ [] | r ∷ rs ↦ (tag_text p.tag ++ r) ∷ rs ]

-- of a formed text, the fields written one after another are its rows
abbrev pub FieldLaw : Type 0
FieldLaw = (t : List ℕ) → formed t ≡ true → flat_map put_field (fields_of (rows_of t)) ≡ rows_of t
