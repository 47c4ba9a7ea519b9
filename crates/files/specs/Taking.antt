-- Amounts taken one by one from a stated total.
use Rattle.std.specs.Prelude.{ℕ, ◌-◌, cond, Some, None, Option, nat_le}

-- what is left once the amount is taken; where it is more than was left, nothing
abbrev pub taken : Option ℕ → ℕ → Option ℕ
taken None a = None
taken (Some n) a = cond (nat_le a n) (Some (n - a)) None
