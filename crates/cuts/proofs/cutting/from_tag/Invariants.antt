use Rattle.std.proofs.Common.{◌≡◌, ◌≤◌, true, length}
use Rattle.text.specs.Rows.{rows_of}
use Rattle.text.specs.Texts.{good}
use Rattle.cuts.specs.Cuts.{tagged}
use Rattle.cuts.proofs.cutting.from_tag.Given as goal

abbrev pub invariant-loop-rows : goal.invariant-loop-rows
invariant-loop-rows l =
    (tagged (rows_of l.rows.rest.now) ≡ tagged (rows_of l.text))
    × (good l.text ≡ true → good l.rows.rest.now ≡ true)
    × (length l.rows.rest.now ≤ length l.text)

abbrev pub decreases-loop-rows : goal.decreases-loop-rows
decreases-loop-rows l = length l.rows.rest.now
