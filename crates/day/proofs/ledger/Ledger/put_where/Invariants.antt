use Rattle.day.proofs.Stores.{PutBelow}
use Rattle.day.proofs.ledger.Ledger.put_where.Given as goal

abbrev pub invariant-loop-i : goal.invariant-loop-i
invariant-loop-i g l = PutBelow (goal.F-post g l.holds) l.state l.initial.r-items l.r-items l.i
