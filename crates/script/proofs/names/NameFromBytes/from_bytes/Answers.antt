use Rattle.std.proofs.Common.{rules, arith, codes, refl}
use Rattle.script.proofs.Bytes.{read_off}
use Rattle.script.proofs.names.NameFromBytes.from_bytes.Goals as goal

pub returns-in-112 : goal.returns-in-112
returns-in-112 c = rw (read_off c.args.bytes.now (codes "pay-in") (omega arith) (search rules)) refl

pub returns-in-covers : goal.returns-in-covers
returns-in-covers c = rw (read_off c.args.bytes.now (codes "covers") (omega arith) (search rules)) refl
