use Rattle.names.proofs.Numerals.{numeral_read, numeral_small}
use Rattle.std.proofs.Common.{◌≡◌, Some, rules}
use Rattle.names.specs.Names.{numeral}
use Rattle.names.proofs.judge.numeral.Goals as goal

pub returns-in_err-number : goal.returns-in_err-number
returns-in_err-number c = let e = numeral_read c.args.bytes.now c.requires in search rules

pub returns : goal.returns
returns c =
    let e = numeral_read c.args.bytes.now c.requires in
    let read : numeral c.args.bytes.now ≡ Some c.in_ok-number.field-0 = search rules in
    let small = numeral_small c.args.bytes.now c.in_ok-number.field-0 c.requires read in
    search rules
