-- Worked examples.
use Rattle.std.specs.Prelude.{◌≡◌, ◌+◌, true, false, Some, None, codes}
use Rattle.values.specs.Digits.{digits}
use Rattle.values.specs.Amounts.{limit, amount_spelled, amount_of, amount_text}
use Rattle.values.specs.Calendar.{valid_date, day_of_year, yymmdd}

-- amounts as they are read
abbrev pub Read : Type 0
Read =
    (amount_of (codes "1,") ≡ Some 100)
    × (amount_of (codes "0,5") ≡ Some 50)
    × (amount_of (codes "0,00") ≡ Some 0)
    × (amount_of (codes ",5") ≡ None)
    × (amount_of (codes "1,234") ≡ None)
    × (amount_of (codes "10000000,") ≡ Some limit)
    × (amount_of (codes "10000000,01") ≡ Some (limit + 1))
    × (amount_spelled (codes ",5") ≡ true)
    × (amount_spelled (codes "1.5") ≡ false)

-- amounts as they are written
abbrev pub Wrote : Type 0
Wrote = (amount_text 1 ≡ codes "0,01") × (amount_text 100000000 ≡ codes "1000000,00") × (amount_text limit ≡ codes "10000000,00")

-- dates
abbrev pub Dated : Type 0
Dated =
    (digits 3 (day_of_year 2024 2 25) ≡ codes "056")
    × (digits 3 (day_of_year 2023 2 25) ≡ codes "056")
    × (digits 3 (day_of_year 2024 3 1) ≡ codes "061")
    × (digits 3 (day_of_year 2023 3 1) ≡ codes "060")
    × (yymmdd 2024 3 1 ≡ codes "240301")
    × (valid_date 2024 2 29 ≡ true)
    × (valid_date 2023 2 29 ≡ false)

abbrev pub Worked : Type 0
Worked = Read × Wrote × Dated
