-- A payer or a payee: an account or none, and rows of name and address.
use Rattle.std.specs.Prelude.{ℕ, ◌+◌, Bool, true, false, cond, not, ◌&&◌, List, [], ◌∷◌, length, take, drop, is_some, Some, None, codes, Option, Result, ◌==◌}
use Rattle.std.specs.Str.{bytes_eq}
use Rattle.faults.specs.declared.code.Code.TheVariants.{F06, T12, T13, T31}
use Rattle.faults.specs.declared.code.Fault.{Fault}
use Rattle.codes.specs.Accounts.{account_ok}
use Rattle.fields.specs.Faults.{when, first_fault, answer}
use Rattle.fields.specs.Letters.{letter_is}
use Rattle.fields.specs.Lines.{slash, bad_line, bad_with_account, later_slash, first_row}
use Rattle.fields.specs.Shapes.{Part, party}

-- the most rows of name and address
abbrev pub name_rows : ℕ
name_rows = 4

-- what follows the / that begins the first row
abbrev pub account_of : List (List ℕ) → Option (List ℕ)
account_of [] = None
account_of (r ∷ rs) = cond (slash r) (Some (drop 1 r)) None

-- the rows of name and address
abbrev pub names_of : List (List ℕ) → List (List ℕ)
names_of [] = []
names_of (r ∷ rs) = cond (slash r) rs (r ∷ rs)

-- a row that is bad where the party has an account, or where it has none
abbrev pub bad_row : Bool → ℕ → List ℕ → Bool
bad_row true = bad_with_account (1 + name_rows)
bad_row false = bad_line name_rows

-- what every Latvian account number begins with
abbrev pub latvia : List ℕ
latvia = codes "LV"

-- an account that says it is Latvian
abbrev pub is_latvian : List ℕ → Bool
is_latvian a = bytes_eq (take (length latvia) a) latvia

-- an account that says it is Latvian and is not a Latvian account number
abbrev pub bad_latvian : Option (List ℕ) → Bool
bad_latvian None = false
bad_latvian (Some a) = is_latvian a && not (account_ok a)

-- the field's letter must be the one asked for
abbrev pub party_of : Option ℕ → Option ℕ → ℕ → List (List ℕ) → Result Part Fault
party_of asked letter field rs = answer (first_fault field (
    (F06, when (not (letter_is asked letter)) 1)
    ∷ (F06, first_row (bad_row (is_some (account_of rs))) 1 rs)
    ∷ (T12, first_row later_slash 1 rs)
    ∷ (T13, when (length (names_of rs) == 0) 0)
    ∷ (T31, when (bad_latvian (account_of rs)) 1)
    ∷ [])) (party (account_of rs) (names_of rs))
