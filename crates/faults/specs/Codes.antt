-- The codes as plain numbers: a hundred times the letter's byte (F is 70, H is 72, T is 84), and the two digits.
use Rattle.std.specs.Prelude.{ℕ}
use Rattle.faults.specs.declared.code.Code.{Code}
use Rattle.faults.specs.declared.code.Code.TheVariants.{F01, H04, H06, H05, F04, F05, F06, F07, T09, T10, T11, T12, T13, T20, T21, T26, T27, T28, T29, T31, T33}

abbrev pub number_of : Code → ℕ
number_of F01 = 7001
number_of H04 = 7204
number_of H06 = 7206
number_of H05 = 7205
number_of F04 = 7004
number_of F05 = 7005
number_of F06 = 7006
number_of F07 = 7007
number_of T09 = 8409
number_of T10 = 8410
number_of T11 = 8411
number_of T12 = 8412
number_of T13 = 8413
number_of T20 = 8420
number_of T21 = 8421
number_of T26 = 8426
number_of T27 = 8427
number_of T28 = 8428
number_of T29 = 8429
number_of T31 = 8431
number_of T33 = 8433
