-- What a table of checks that pass tells. Assumes nothing.
use Rattle.std.proofs.Common.{◌≡◌, ℕ, zero, suc, List, [], ◌∷◌, get_or, Some, None, Ok, Option, refl}
use Rattle.faults.specs.declared.code.Fault.{Fault}
use Rattle.headers.specs.Tables.{or_else, first_of, unless}

-- something passes only where no check failed
pub ok_parts : {A : Type 0} (e : Option Fault) (a b : A) → unless e a ≡ Ok b → (e ≡ None) × (a ≡ b)
ok_parts None a b h = (refl, cc)
ok_parts (Some f) a b h = absurd (cc)

first_none : (e l : Option Fault) → or_else e l ≡ None → (e ≡ None) × (l ≡ None)
first_none None l h = (refl, h)
first_none (Some f) l h = absurd (cc)

-- no entry of a table fails where the first failing one is none
pub none_fails : (es : List (Option Fault)) (i : ℕ) → first_of es ≡ None → get_or es i None ≡ None
none_fails [] zero h = refl
none_fails [] (suc i) h = refl
none_fails (e ∷ es) zero h = (first_none e (first_of es) h).0
none_fails (e ∷ es) (suc i) h = none_fails es i (first_none e (first_of es) h).1
