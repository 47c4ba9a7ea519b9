-- How a word spells bytes: a backslash and two hexadecimal digits stand for one byte, any other byte for itself.
use Rattle.std.specs.Prelude.{ℕ, ◌+◌, ◌-◌, ◌*◌, cond, ◌&&◌, List, [], ◌∷◌, Some, None, Ok, Err, Option, Result, ◌==◌, nat_le}
use Rattle.script.specs.declared.command.LineError.{LineError}
use Rattle.script.specs.declared.command.LineError.TheVariants.{BadEscape}
use Rattle.script.specs.Outcomes.{in_front}

-- the backslash
abbrev pub backslash : ℕ
backslash = 92

-- the value of a hexadecimal digit: 0 to 9, A to F or a to f
abbrev pub hex_digit : ℕ → Option ℕ
hex_digit b =
    cond (nat_le 48 b && nat_le b 57) (Some (b - 48))
    (cond (nat_le 65 b && nat_le b 70) (Some (b - 55))
    (cond (nat_le 97 b && nat_le b 102) (Some (b - 87)) None))

-- the byte of two hexadecimal digits, the high one first
abbrev pub paired : Option ℕ → Option ℕ → Option ℕ
paired None l = None
paired (Some h) None = None
paired (Some h) (Some l) = Some (h * 16 + l)

-- the byte, if there is one, in front of the rest
abbrev pub escaped : Option ℕ → Result (List ℕ) LineError → Result (List ℕ) LineError
escaped None rest = Err BadEscape
escaped (Some b) rest = in_front b rest

-- the bytes that a word spells
abbrev pub spelled : List ℕ → Result (List ℕ) LineError
spelled [] = Ok []
spelled (b ∷ []) = cond (b == backslash) (Err BadEscape) (in_front b (spelled []))
spelled (b ∷ h ∷ []) = cond (b == backslash) (Err BadEscape) (in_front b (spelled (h ∷ [])))
spelled (b ∷ h ∷ l ∷ t) = cond (b == backslash) (escaped (paired (hex_digit h) (hex_digit l)) (spelled t)) (in_front b (spelled (h ∷ l ∷ t)))
