-- The codes of instructions, with more text after some.
use Rattle.std.specs.Prelude.{ℕ, Bool, true, false, ◌&&◌, ◌||◌, List, [], ◌∷◌, length, take, drop, codes, ◌==◌, nat_le, slice_index}
use Rattle.std.specs.Str.{bytes_eq}
use Rattle.std.specs.List.{list_any}
use Rattle.text.specs.Chars.{belongs, every}
use Rattle.text.specs.declared.class.Class.TheVariants.{Permitted}
use Rattle.codes.specs.declared.entry.Entry.{Entry}

-- each code, with whether more text may follow it
abbrev pub table : List Entry
table =
    record { code = codes "CHQB"; more = false }
    ∷ record { code = codes "CORT"; more = false }
    ∷ record { code = codes "HOLD"; more = true }
    ∷ record { code = codes "INTC"; more = false }
    ∷ record { code = codes "PHON"; more = true }
    ∷ record { code = codes "PHOB"; more = true }
    ∷ record { code = codes "PHOI"; more = true }
    ∷ record { code = codes "REPA"; more = true }
    ∷ record { code = codes "SDVA"; more = false }
    ∷ record { code = codes "TELE"; more = true }
    ∷ record { code = codes "TELB"; more = true }
    ∷ record { code = codes "TELI"; more = true }
    ∷ []

-- how long the text after a code and its slash may be
abbrev pub longest_text : ℕ
longest_text = 30

-- after the four of the code, a slash and 1 to 30 permitted characters
abbrev pub goes_on : List ℕ → Bool
goes_on s = slice_index s 4 == 47 && (nat_le 1 (length (drop 5 s)) && (nat_le (length (drop 5 s)) longest_text && every (belongs Permitted) (drop 5 s)))

-- the entry's code alone, or going on where it may
abbrev pub allows : List ℕ → Entry → Bool
allows s e = bytes_eq (take 4 s) e.code && (length s == 4 || (e.more && goes_on s))

-- an instruction is what some entry of the table allows
abbrev pub instruction_ok : List ℕ → Bool
instruction_ok s = list_any (allows s) table

-- an instruction to hold the money for the payee, with or without more text
abbrev pub holds : List ℕ → Bool
holds s = instruction_ok s && bytes_eq (take 4 s) (codes "HOLD")
