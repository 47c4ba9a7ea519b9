use Rattle.fields.specs.Lines.{bad_line}
use Rattle.fields.proofs.run.run_row.Given as goal

abbrev pub ghost-first_row : goal.ghost-first_row
ghost-first_row a = bad_line a.fails.0.now
