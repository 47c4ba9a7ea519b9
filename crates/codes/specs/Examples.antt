-- Worked examples.
use Rattle.std.specs.Prelude.{◌≡◌, true, false, codes}
use Rattle.codes.specs.Bics.{bic_formed}
use Rattle.codes.specs.Accounts.{account_ok}
use Rattle.codes.specs.Instructions.{instruction_ok, holds}

abbrev pub Worked : Type 0
Worked =
    (account_ok (codes "LV80BANK0000435195001") ≡ true)
    × (account_ok (codes "LV81BANK0000435195001") ≡ false)
    × (bic_formed (codes "BANKLV22") ≡ true)
    × (bic_formed (codes "BANKL122") ≡ false)
    × (instruction_ok (codes "CHQB") ≡ true)
    × (instruction_ok (codes "CHQB/X") ≡ false)
    × (instruction_ok (codes "PHOB/X") ≡ true)
    × (instruction_ok (codes "HOLD/") ≡ false)
    × (holds (codes "HOLD") ≡ true)
    × (holds (codes "HOLD/X") ≡ true)
    × (holds (codes "HOLD/") ≡ false)
