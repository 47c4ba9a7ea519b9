-- The texts that keys hold as one number. Assumes nothing.
use Rattle.std.specs.Prelude.{ℕ, Bool, cond, ◌&&◌, List, length, Some, None, Option, nat_le}
use Rattle.std.specs.Int.Digits.{digits_of}
use Rattle.text.specs.Chars.{belongs, every}
use Rattle.text.specs.declared.class.Class.TheVariants.{Permitted}

-- how many characters a reference has at most
abbrev pub reference_width : ℕ
reference_width = 16

-- the characters that a number stands for: its digits to the base 256
abbrev pub spelled : ℕ → List ℕ
spelled n = digits_of 256 n

-- what the key of a reference can hold: 1 to 16 permitted characters; the rule on slashes is text's is_reference
abbrev pub reference_form : List ℕ → Bool
reference_form t = nat_le 1 (length t) && (nat_le (length t) reference_width && every (belongs Permitted) t)

-- the text, if it is of the form
abbrev pub formed_only : (List ℕ → Bool) → List ℕ → Option (List ℕ)
formed_only form t = cond (form t) (Some t) None
