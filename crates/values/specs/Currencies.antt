-- Currencies.
use Rattle.std.specs.Prelude.{ℕ, Bool, cond, ◌&&◌, List, length, Some, None, Option, ◌==◌}
use Rattle.text.specs.Chars.{belongs, every}
use Rattle.text.specs.declared.class.Class.TheVariants.{Capital}

-- three capital letters
abbrev pub currency_formed : List ℕ → Bool
currency_formed s = length s == 3 && every (belongs Capital) s

-- the letters, where they name a currency
abbrev pub currency_of : List ℕ → Option (List ℕ)
currency_of s = cond (currency_formed s) (Some s) None
