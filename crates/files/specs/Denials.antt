-- The denials of a whole file.
use Rattle.std.specs.Prelude.{ℕ, Bool, cond, List, [], ◌∷◌, Some, None, Option}
use Rattle.files.specs.declared.denial.FileDenial.{FileDenial}
use Rattle.files.specs.declared.denial.FileDenial.TheVariants.{TooLong, NoControl, WrongCount, WrongSum}

-- the number that a denial is answered by
abbrev pub number_of : FileDenial → ℕ
number_of TooLong = 10
number_of NoControl = 11
number_of WrongCount = 12
number_of WrongSum = 13

-- the first denial of a table whose test says that it is due
abbrev pub first_due : List (FileDenial × Bool) → Option FileDenial
first_due [] = None
first_due (e ∷ es) = cond e.1 (Some e.0) (first_due es)
