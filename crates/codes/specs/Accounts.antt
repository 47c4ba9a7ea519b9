-- Latvian account numbers.
use Rattle.std.specs.Prelude.{◌≡◌, ℕ, ◌+◌, ◌-◌, ◌*◌, ◌/◌, ◌%◌, Bool, true, cond, ◌&&◌, List, [], ◌∷◌, ◌++◌, length, take, drop, codes, fold, ◌==◌}
use Rattle.std.specs.Str.{bytes_eq}
use Rattle.text.specs.Chars.{belongs, digit, every}
use Rattle.text.specs.Digits.{number_after}
use Rattle.text.specs.declared.class.Class.TheVariants.{Digit, Capital, Alphanumeric}

-- a digit is itself, and A to Z are 10 to 35
abbrev pub char_value : ℕ → ℕ
char_value c = cond (digit c) (c - 48) (c - 55)

-- ten, or a hundred for a letter, whose value takes two digits
abbrev pub char_scale : ℕ → ℕ
char_scale c = cond (digit c) 10 100

-- the number that is written where after n each character is written as its value
abbrev pub written_after : ℕ → List ℕ → ℕ
written_after n cs = fold (λ n c. n * char_scale c + char_value c) n cs

-- what the number is divided by
abbrev pub divisor : ℕ
divisor = 97

-- the characters 5 to 8 name the bank
abbrev pub bank_of : List ℕ → List ℕ
bank_of s = take 4 (drop 4 s)

-- LV, two digits, four capital letters of the bank, 13 of A-Z or 0-9
abbrev pub account_formed : List ℕ → Bool
account_formed s = length s == 21 && (bytes_eq (take 2 s) (codes "LV") && (every (belongs Digit) (take 2 (drop 2 s)) && (every (belongs Capital) (bank_of s) && every (belongs Alphanumeric) (drop 8 s))))

-- the first four characters moved to the end, and all of it one number
abbrev pub account_number : List ℕ → ℕ
account_number s = written_after 0 (drop 4 s ++ take 4 s)

-- formed so, and with remainder 1
abbrev pub account_ok : List ℕ → Bool
account_ok s = account_formed s && account_number s % divisor == 1

-- the characters with a letter spelled as the two digits of its value
abbrev pub spelled : List ℕ → List ℕ
spelled [] = []
spelled (c ∷ cs) = cond (digit c) (c ∷ spelled cs) ((48 + (c - 55) / 10) ∷ (48 + (c - 55) % 10) ∷ spelled cs)

-- the spelling of digits and capital letters is digits, and the number is what they write
abbrev pub SpellingLaw : Type 0
SpellingLaw = (n : ℕ) (cs : List ℕ) → every (belongs Alphanumeric) cs ≡ true
    → (every (belongs Digit) (spelled cs) ≡ true) × (written_after n cs ≡ number_after n (spelled cs))
