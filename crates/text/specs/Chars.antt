-- Classes of characters. A test is a Bool, so that it computes.
use Rattle.std.specs.Prelude.{ℕ, suc, ◌+◌, Bool, false, cond, ◌&&◌, ◌||◌, List, [], ◌∷◌, codes, ◌==◌, nat_le}
use Rattle.std.specs.List.{list_all}
use Rattle.text.specs.declared.class.Class.{Class}
use Rattle.text.specs.declared.class.Class.TheVariants.{Digit, Capital, Alphanumeric, Permitted}

-- b is one of the list
abbrev pub one_of : List ℕ → ℕ → Bool
one_of [] b = false
one_of (c ∷ cs) b = b == c || one_of cs b

-- 0 to 9
abbrev pub digit : ℕ → Bool
digit b = nat_le 48 b && nat_le b 57

-- A to Z
abbrev pub capital : ℕ → Bool
capital b = nat_le 65 b && nat_le b 90

-- a space or a punctuation mark of SWIFT's set
abbrev pub mark : ℕ → Bool
mark b = one_of (codes " /-?:().,'+") b

-- b is a character of the class
abbrev pub belongs : Class → ℕ → Bool
belongs Digit b = digit b
belongs Capital b = capital b
belongs Alphanumeric b = capital b || digit b
belongs Permitted b = capital b || (digit b || mark b)

-- the test passes at each
abbrev pub every : (ℕ → Bool) → List ℕ → Bool
every p xs = list_all p xs

-- where c first stands, or the length
abbrev pub place : ℕ → List ℕ → ℕ
place c [] = 0
place c (x ∷ xs) = cond (x == c) 0 (1 + place c xs)

-- how many bytes stand before the first that fails the test
abbrev pub leading : (ℕ → Bool) → List ℕ → ℕ
leading p [] = 0
leading p (x ∷ xs) = cond (p x) (suc (leading p xs)) 0
