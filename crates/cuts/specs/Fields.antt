-- The fields that are still to come, and how they are given one by one.
use Rattle.std.specs.Prelude.{◌≡◌, ◌<◌, List, ◌++◌, length, Option, MatchOption}
use Rattle.std.specs.Iterator.{YieldsFirstBy}
use Rattle.text.specs.Tags.{tag_text}
use Rattle.text.specs.Rows.{rows_of}
use Rattle.cuts.specs.Cuts.{Parts, fields_of}
use Rattle.cuts.specs.declared.tagged.Tagged.{Tagged}
use Rattle.cuts.specs.declared.tagged.Fields.{Fields}

-- a field by what its reference points to
abbrev pub parts_in : Tagged → Parts
parts_in f = record { tag = f.tag; rows = rows_of f.bytes.now }

-- the fields that are left
abbrev pub fields_left : Fields → List Parts
fields_left s = fields_of (rows_of s.rest.now)

-- one call of `next`: it gives the first of the fields that are left; what was left of the text is the field's tag as it is written, its bytes, and what is left then
pub record GivesField (s : Fields) (r : Option Tagged) (t : Fields) : Type 0 where
  pub fields : YieldsFirstBy parts_in fields_left s r t
  pub cut : MatchOption r (t.rest.now ≡ s.rest.now) (λ f. s.rest.now ≡ tag_text f.tag ++ (f.bytes.now ++ t.rest.now))
  pub shorter : MatchOption r (t.rest.now ≡ s.rest.now) (λ f. length t.rest.now < length s.rest.now)
