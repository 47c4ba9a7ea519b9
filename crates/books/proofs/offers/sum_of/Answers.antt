use Rattle.std.proofs.Common.{arith}
use Rattle.std.proofs.lemmas.Int.{ints, to_z-of_z}
use Rattle.std.proofs.lemmas.List.Sums.{fold_more}
use Rattle.books.proofs.offers.sum_of.Goals as goal

pub loop-p-preserved : goal.loop-p-preserved
loop-p-preserved c =
    let w = c.requires.within c.loop-p.p-index c.loop-p-test.true in
    (grind (arith, to_z-of_z, fold_more), omega (arith, ints), omega (arith, ints))
