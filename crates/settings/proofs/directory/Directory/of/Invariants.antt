use Rattle.settings.proofs.Builds.{Built}
use Rattle.settings.proofs.directory.Directory.of.Given as goal

abbrev pub invariant-loop-entry : goal.invariant-loop-entry
invariant-loop-entry l = Built l.entries l.entry-index l.directory
