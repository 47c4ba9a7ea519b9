-- What reading comes to, where each step can fail.
use Rattle.std.specs.Prelude.{◌≡◌, ◌⊎◌, List, ◌∷◌, Ok, Err, Result}
use Rattle.script.specs.declared.command.LineError.{LineError}
use Rattle.script.specs.declared.command.LineError.TheVariants.{NoMemory}

-- what follows from the value, or the failure
abbrev pub and_then : {X Y : Type 0} → Result X LineError → (X → Result Y LineError) → Result Y LineError
and_then (Ok x) f = f x
and_then (Err e) f = Err e

-- one more in front of the list, or the failure
abbrev pub in_front : {X : Type 0} → X → Result (List X) LineError → Result (List X) LineError
in_front x (Ok xs) = Ok (x ∷ xs)
in_front x (Err e) = Err e

-- what a call that takes memory answers, where `shown` says what a value of the code stands for:
-- what is defined, or that memory was refused
abbrev pub Answers : {X Y : Type 0} → (Y → X) → Result X LineError → Result Y LineError → Type 0
Answers shown defined (Ok y) = defined ≡ Ok (shown y)
Answers shown defined (Err e) = (e ≡ NoMemory) ⊎ (defined ≡ Err e)
