-- Worked examples, on the definitions by which messages are judged.
use Rattle.std.specs.Prelude.{◌≡◌, ℕ, List, [], ◌∷◌, Some, Ok, Err, codes, Result}
use Rattle.faults.specs.declared.code.Code.{Code}
use Rattle.faults.specs.declared.code.Code.TheVariants.{T11, T29, T31}
use Rattle.faults.specs.declared.code.Fault.{Fault}
use Rattle.fields.specs.Party.{party_of}
use Rattle.fields.specs.Shapes.{Part, row, party}
use Rattle.fields.specs.Value.{value_of, counted_of}
use Rattle.values.specs.Calendar.{day_of_year}
use Rattle.values.specs.Digits.{digits}

-- the value's field on 25 February 2024 in euro, where it has this row
abbrev pub valued : List ℕ → Result Part Fault
valued r = value_of (record { day = codes "240225"; currency = codes "EUR" }) 32 (r ∷ [])

abbrev pub rejected : Code → ℕ → ℕ → Result Part Fault
rejected c field n = Err (record { code = c; field = field; row = n })

-- amounts
abbrev pub Amounts : Type 0
Amounts =
    (valued (codes "240225EUR1,") ≡ Ok (row (codes "240225EUR1,")))
    × (counted_of (codes "240225EUR1,") ≡ 100)
    × (valued (codes "240225EUR0,5") ≡ Ok (row (codes "240225EUR0,5")))
    × (counted_of (codes "240225EUR0,5") ≡ 50)
    × (valued (codes "240225EUR0,00") ≡ rejected T11 32 0)
    × (valued (codes "240225EUR,5") ≡ rejected T11 32 0)
    × (valued (codes "240225EUR1,234") ≡ rejected T11 32 0)
    × (valued (codes "240225EUR10000000,") ≡ Ok (row (codes "240225EUR10000000,")))
    × (valued (codes "240225EUR10000000,01") ≡ rejected T29 32 0)

-- a payer with this account and a name
abbrev pub payer_with : List ℕ → Result Part Fault
payer_with a = party_of (Some 75) (Some 75) 50 ((47 ∷ a) ∷ codes "A NAME" ∷ [])

-- account numbers
abbrev pub Accounts : Type 0
Accounts =
    (payer_with (codes "LV80BANK0000435195001") ≡ Ok (party (Some (codes "LV80BANK0000435195001")) (codes "A NAME" ∷ [])))
    × (payer_with (codes "LV81BANK0000435195001") ≡ rejected T31 50 1)

-- days of the year
abbrev pub Days : Type 0
Days =
    (digits 3 (day_of_year 2024 2 25) ≡ codes "056")
    × (digits 3 (day_of_year 2023 2 25) ≡ codes "056")
    × (digits 3 (day_of_year 2024 3 1) ≡ codes "061")
    × (digits 3 (day_of_year 2023 3 1) ≡ codes "060")

abbrev pub Worked : Type 0
Worked = Amounts × Accounts × Days
