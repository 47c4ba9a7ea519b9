-- BICs, without branch.
use Rattle.std.specs.Prelude.{ℕ, Bool, ◌&&◌, List, length, take, drop, ◌==◌}
use Rattle.text.specs.Chars.{belongs, every}
use Rattle.text.specs.declared.class.Class.TheVariants.{Capital, Alphanumeric}

-- four of A-Z or 0-9 for the bank, two of A-Z for the country, two of A-Z or 0-9 for the place
abbrev pub bic_formed : List ℕ → Bool
bic_formed s = length s == 8 && (every (belongs Alphanumeric) (take 4 s) && (every (belongs Capital) (take 2 (drop 4 s)) && every (belongs Alphanumeric) (drop 6 s)))
