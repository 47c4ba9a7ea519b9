use Rattle.codes.proofs.Spelling.{spelling_law}
use Rattle.codes.proofs.accounts.account_laws.Goals as goal

pub returns : goal.returns
returns c = spelling_law
