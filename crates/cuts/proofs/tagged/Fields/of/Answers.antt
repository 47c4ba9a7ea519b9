use Rattle.std.proofs.Common.{sym}
use Rattle.cuts.proofs.Pieces.{whole_text}
use Rattle.cuts.proofs.Puts.{field_law}
use Rattle.cuts.proofs.tagged.Fields.of.Goals as goal

pub returns-then-not-is_formed-clause-law : goal.returns-then-not-is_formed-clause-law
returns-then-not-is_formed-clause-law c = field_law

pub invariant_of-result-2 : goal.invariant_of-result-2
invariant_of-result-2 c = record { whole = whole_text c.args.text.now (sym c.if-not-is_formed.ensures.test) }

pub returns-clause-law : goal.returns-clause-law
returns-clause-law c = field_law
