-- The letter of a tag.
use Rattle.std.specs.Prelude.{ℕ, Bool, true, false, Some, None, Option, ◌==◌}

-- the letter is the one asked for, or there is none and none is asked for
abbrev pub letter_is : Option ℕ → Option ℕ → Bool
letter_is None None = true
letter_is None (Some l) = false
letter_is (Some k) None = false
letter_is (Some k) (Some l) = l == k
