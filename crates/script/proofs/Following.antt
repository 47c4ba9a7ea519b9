-- What is read so far, and what follows it.
use Rattle.std.proofs.Common.{◌≡◌, List, [], ◌∷◌, ◌++◌, Ok, Err, Result, refl, ap, append_assoc}
use Rattle.script.specs.declared.command.LineError.{LineError}
use Rattle.script.specs.Outcomes.{in_front}

-- the list behind others, or the failure
abbrev pub following : {X : Type 0} → List X → Result (List X) LineError → Result (List X) LineError
following xs (Ok ys) = Ok (xs ++ ys)
following xs (Err e) = Err e

-- a list and one more, and what follows
pub following_one : {X : Type 0} (xs : List X) (x : X) (r : Result (List X) LineError) → following (xs ++ (x ∷ [])) r ≡ following xs (in_front x r)
following_one xs x (Ok ys) = ap Ok (append_assoc xs (x ∷ []) ys)
following_one xs x (Err e) = refl
