-- Tables of checks: the first that fails gives the fault.
use Rattle.std.specs.Prelude.{ℕ, Bool, cond, List, [], ◌∷◌, Some, None, Ok, Err, Option, Result}
use Rattle.faults.specs.declared.code.Code.{Code}
use Rattle.faults.specs.declared.code.Fault.{Fault}

-- a check of a field at no row in particular, which fails if the test says so
abbrev pub failing : Code → ℕ → Bool → Option Fault
failing c field b = cond b (Some (record { code = c; field = field; row = 0 })) None

abbrev pub or_else : Option Fault → Option Fault → Option Fault
or_else (Some f) later = Some f
or_else None later = later

-- the first entry that fails
abbrev pub first_of : List (Option Fault) → Option Fault
first_of [] = None
first_of (e ∷ es) = or_else e (first_of es)

-- what is read, unless a check failed
abbrev pub unless : {A : Type 0} → Option Fault → A → Result A Fault
unless (Some f) a = Err f
unless None a = Ok a
