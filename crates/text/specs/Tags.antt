-- Tags: what the first row of a field begins with.
use Rattle.std.specs.Prelude.{◌≡◌, ℕ, ◌+◌, ◌-◌, ◌*◌, ◌/◌, ◌%◌, Bool, cond, ◌&&◌, ◌||◌, List, [], ◌∷◌, ◌++◌, drop, Some, None, Option, ◌==◌, slice_index}
use Rattle.text.specs.Chars.{digit, capital}
use Rattle.text.specs.declared.tag.Tag.{Tag}

-- : and two digits, then at most one capital letter, and :
abbrev pub is_tag : List ℕ → Bool
is_tag r = slice_index r 0 == 58 && (digit (slice_index r 1) && (digit (slice_index r 2) && (slice_index r 3 == 58 || (capital (slice_index r 3) && slice_index r 4 == 58))))

-- the number that the two digits write, and the letter if the next byte is no colon
abbrev pub tag_in : List ℕ → Tag
tag_in r = record { number = 10 * (slice_index r 1 - 48) + (slice_index r 2 - 48); letter = cond (slice_index r 3 == 58) None (Some (slice_index r 3)) }

-- the tag that a row begins with, if it begins with one
abbrev pub tag_of : List ℕ → Option Tag
tag_of r = cond (is_tag r) (Some (tag_in r)) None

-- how many bytes a tag takes, with both colons
abbrev pub size_by : Option ℕ → ℕ
size_by None = 4
size_by (Some l) = 5

abbrev pub tag_size : Tag → ℕ
tag_size t = size_by t.letter

-- a letter, or none, and the colon that ends the tag
abbrev pub ending : Option ℕ → List ℕ
ending None = 58 ∷ []
ending (Some l) = l ∷ 58 ∷ []

-- a tag as it is written
abbrev pub tag_text : Tag → List ℕ
tag_text t = 58 ∷ (48 + t.number / 10) ∷ (48 + t.number % 10) ∷ ending t.letter

-- a row that a tag begins is that tag as it is written, and what follows it
abbrev pub TagLaw : Type 0
TagLaw = (r : List ℕ) (t : Tag) → tag_of r ≡ Some t → r ≡ tag_text t ++ drop (tag_size t) r
