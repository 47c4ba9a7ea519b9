-- The laws of the language: of a line's words, of what a word spells, and of numbers.
use Rattle.std.specs.Prelude.{◌≡◌, ℕ, ◌+◌, ◌/◌, ◌%◌, ◌<◌, true, cond, List, [], ◌∷◌, ℤ, Ok, decimal, nat_lt}
use Rattle.std.specs.Int.Signed.{mag}
use Rattle.std.specs.List.{flat_map, AllByRecursion}
use Rattle.std.specs.Fmt.{signed_decimal}
use Rattle.text.specs.Digits.{number_end}
use Rattle.script.specs.Numbers.{signed_end, number_of, signed_of}
use Rattle.script.specs.Spelling.{backslash, spelled}
use Rattle.script.specs.Words.{lacks, WordsLaw}

-- a byte as a backslash and two hexadecimal digits
abbrev pub hex_char : ℕ → ℕ
hex_char d = cond (nat_lt d 10) (48 + d) (87 + d)

abbrev pub in_hex : List ℕ → List ℕ
in_hex bs = flat_map (λ b. backslash ∷ hex_char (b / 16) ∷ hex_char (b % 16) ∷ []) bs

-- a word without a backslash spells itself, and any bytes can be spelled
pub record SpellingLaw : Type 0 where
  pub plain : (w : List ℕ) → lacks backslash w ≡ true → spelled w ≡ Ok w
  pub any : (bs : List ℕ) → AllByRecursion (λ b. b < 256) bs → spelled (in_hex bs) ≡ Ok bs

-- a number is read back as it is printed, up to the bounds, and none beyond them is read
pub record NumberLaw : Type 0 where
  pub back : (n : ℕ) → n < number_end → number_of (decimal n) ≡ Ok n
  pub bounded : (w : List ℕ) (n : ℕ) → number_of w ≡ Ok n → n < number_end
  pub signed_back : (z : ℤ) → mag z < signed_end → signed_of (signed_decimal z) ≡ Ok z
  pub signed_bounded : (w : List ℕ) (z : ℤ) → signed_of w ≡ Ok z → mag z < signed_end

-- all of them
pub record LanguageLaw : Type 0 where
  pub words : WordsLaw
  pub spelling : SpellingLaw
  pub numbers : NumberLaw
