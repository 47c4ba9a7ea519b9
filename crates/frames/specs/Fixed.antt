-- The fixed bytes of the formats, and bytes that begin with them.
use Rattle.std.specs.Prelude.{ℕ, Bool, List, [], ◌∷◌, ◌++◌, length, take, codes}
use Rattle.std.specs.Str.{bytes_eq}

-- the byte that opens a frame
abbrev pub soh : ℕ
soh = 1

-- the byte that closes a frame's content
abbrev pub etx : ℕ
etx = 3

-- the two bytes that end a row
abbrev pub crlf : List ℕ
crlf = 13 ∷ 10 ∷ []

-- what stands before block 1, between blocks 1 and 2, between block 2 and the text, and after the text
abbrev pub before_first : List ℕ
before_first = codes "{1:"

abbrev pub before_second : List ℕ
before_second = codes "}{2:"

abbrev pub before_text : List ℕ
before_text = codes "}{4:" ++ crlf

abbrev pub after_text : List ℕ
after_text = codes "-}"

-- what a row that tells an amount begins with
abbrev pub amount_tag : List ℕ
amount_tag = codes ":32A:"

-- the bytes begin with those sought
abbrev pub begins : List ℕ → List ℕ → Bool
begins p s = bytes_eq (take (length p) s) p

-- b before the first of the pieces, where there is one
abbrev pub on_first : ℕ → List (List ℕ) → List (List ℕ)
on_first b [] = []
on_first b (p ∷ ps) = (b ∷ p) ∷ ps
