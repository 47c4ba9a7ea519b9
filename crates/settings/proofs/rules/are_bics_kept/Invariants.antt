use Rattle.std.proofs.Common.{◌≡◌, drop}
use Rattle.settings.specs.Rules.{bics_kept}
use Rattle.settings.proofs.rules.are_bics_kept.Given as goal

abbrev pub invariant-loop-i : goal.invariant-loop-i
invariant-loop-i l = bics_kept (drop l.i l.entries) ≡ bics_kept l.entries
