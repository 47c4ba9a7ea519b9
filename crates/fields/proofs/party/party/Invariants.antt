use Rattle.fields.specs.Lines.{later_slash}
use Rattle.fields.specs.Party.{bad_row}
use Rattle.fields.proofs.party.party.Given as goal

abbrev pub ghost-first_row : goal.ghost-first_row
ghost-first_row a = bad_row a.fails.0.now

abbrev pub ghost-first_row-2 : goal.ghost-first_row-2
ghost-first_row-2 a = later_slash
