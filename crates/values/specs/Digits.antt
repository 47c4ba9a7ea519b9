-- The digits that write numbers; 48 is the byte of the digit 0.
use Rattle.std.specs.Prelude.{ℕ, zero, suc, ◌+◌, ◌/◌, ◌%◌, ◌^◌, cond, List, [], ◌∷◌, drop, ◌==◌}

-- the last w digits of n, zeros in front of a small n
abbrev pub digits : ℕ → ℕ → List ℕ
digits zero n = []
digits (suc w) n = (48 + n / 10 ^ w % 10) ∷ digits w n

-- how many zeros stand in front of the digits, the last digit not counted
abbrev pub needless : List ℕ → ℕ
needless [] = 0
needless (d ∷ []) = 0
needless (d ∷ e ∷ ds) = cond (d == 48) (1 + needless (e ∷ ds)) 0

-- the digits without needless zeros
abbrev pub plain : List ℕ → List ℕ
plain ds = drop (needless ds) ds
