use Rattle.fields.proofs.single.single.Given as goal

abbrev pub ghost-lone : goal.ghost-lone
ghost-lone g a = g.test
