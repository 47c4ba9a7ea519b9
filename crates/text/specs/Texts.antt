-- A text: its rows, and how each is formed.
use Rattle.std.specs.Prelude.{◌≡◌, ℕ, Bool, true, not, ◌&&◌, ◌||◌, List, [], ◌∷◌, length, drop, Option, MatchOption, ◌<◌, Decides, ◌==◌, nat_lt, slice_index, slice_index_or}
use Rattle.std.specs.Str.{bytes_eq}
use Rattle.text.specs.Chars.{belongs, every}
use Rattle.text.specs.declared.class.Class.TheVariants.{Permitted}
use Rattle.text.specs.Rows.{crlf, rows_of, rows_left, put}
use Rattle.text.specs.declared.rows.Rows.{Rows}
use Rattle.std.specs.Iterator.{YieldsFirstBy}
use Rattle.std.specs.Borrow.{Bor}
use Rattle.text.specs.Tags.{is_tag}

-- at least one byte, the first not -, and a tag if the first is :
abbrev pub begun : List ℕ → Bool
begun r = nat_lt 0 (length r) && (not (slice_index r 0 == 45) && (not (slice_index r 0 == 58) || is_tag r))

-- permitted bytes that begin as a row does
abbrev pub row_formed : List ℕ → Bool
row_formed r = every (belongs Permitted) r && begun r

abbrev pub rows_formed : List (List ℕ) → Bool
rows_formed [] = true
rows_formed (r ∷ rs) = row_formed r && rows_formed rs

-- there is a first row, and it begins with :
abbrev pub opens : List (List ℕ) → Bool
opens rs = slice_index (slice_index_or rs 0 []) 0 == 58

-- each row has its CrLf, and is formed
abbrev pub good : List ℕ → Bool
good t = bytes_eq (put (rows_of t)) t && rows_formed (rows_of t)

abbrev pub formed : List ℕ → Bool
formed t = good t && opens (rows_of t)

-- the text is these rows, well formed, written one after another
abbrev pub IsText : List ℕ → List (List ℕ) → Type 0
IsText t rs = (t ≡ put rs) × (rows_formed rs ≡ true) × (opens rs ≡ true)

-- a text is formed exactly if it is well-formed rows written one after another, and it is so in one way only
abbrev pub TextLaw : Type 0
TextLaw = (t : List ℕ) → Decides (formed t) ((rs : List (List ℕ)) × IsText t rs) × ((rs : List (List ℕ)) → IsText t rs → rows_of t ≡ rs)

-- one call of `next`: it gives the first of the rows that are left, and leaves what follows its CrLf; where all rows are formed, those left are
pub record GivesRow (s : Rows) (r : Option (Bor (List ℕ))) (t : Rows) : Type 0 where
  pub rows : YieldsFirstBy (λ row. row.now) rows_left s r t
  pub rest : t.rest.now ≡ drop 2 (drop (crlf s.rest.now) s.rest.now)
  pub formed : good s.rest.now ≡ true → good t.rest.now ≡ true
  pub shorter : MatchOption r (t.rest.now ≡ s.rest.now) (λ x. length t.rest.now < length s.rest.now)
