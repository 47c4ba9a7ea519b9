use Rattle.std.proofs.Common.{arith}
use Rattle.day.proofs.Stores.{put_more, put_all, first_put, listed_put}
use Rattle.day.proofs.ledger.Ledger.put_where.Goals as goal
use Rattle.day.proofs.ledger.Ledger.put_where.Goals.{then-holds, else-holds}

pub loop-i-preserved : goal.loop-i-preserved
loop-i-preserved g c =
    elim c.if-holds.branch [
      | then-holds w ↦ put_more _ _ _ _ _ _ _ (omega arith) c.loop-i.invariant c.holds.ensures (rw w.if-holds.true w.r-items-is)
      | else-holds w ↦ put_more _ _ _ _ _ _ _ (omega arith) c.loop-i.invariant c.holds.ensures (rw w.if-holds.false w.r-items-is)
    ]

pub invariant_of-self-clause-listed : goal.invariant_of-self-clause-listed
invariant_of-self-clause-listed g c =
    let p = put_all _ _ _ _ c.loop-i.i c.loop-i.auto.r-items c.loop-i-test.false c.loop-i.invariant in
    rw (first_put _ _ _ _ _ c.args.self.now.room p) (listed_put _ _ _ _ _ c.requires.no_wait p c.args.self.now.listed)

pub returns-clause-records : goal.returns-clause-records
returns-clause-records g c =
    let p = put_all _ _ _ _ c.loop-i.i c.loop-i.auto.r-items c.loop-i-test.false c.loop-i.invariant in
    rw (first_put _ _ _ _ _ c.args.self.now.room p) p
