use Rattle.std.proofs.Common.{rules, arith, codes, refl}
use Rattle.script.proofs.Bytes.{read_off}
use Rattle.script.proofs.names.KindFromBytes.from_bytes.Goals as goal

pub returns-in-account : goal.returns-in-account
returns-in-account c = rw (read_off c.args.bytes.now (codes "account") (omega arith) (search rules)) refl

pub returns-in-guarantee : goal.returns-in-guarantee
returns-in-guarantee c = rw (read_off c.args.bytes.now (codes "guarantee") (omega arith) (search rules)) refl
