use Rattle.std.proofs.Common.{not, ap, rules, tests}
use Rattle.std.specs.Str.{bytes_eq}
use Rattle.std.proofs.lemmas.Iterator.{YieldsList-from_slice}
use Rattle.std.proofs.lemmas.Iterator.Search.{any_from_yields_List}
use Rattle.keys.specs.Held.{bic_text}
use Rattle.settings.specs.Rules.{entry_text}
use Rattle.settings.proofs.rules.is_new.Goals as goal

pub returns : goal.returns
returns c = ap not (any_from_yields_List (λ e. bytes_eq (bic_text c.args.bic) (entry_text e)) _ _ c.any.result c.any.ensures.ran (YieldsList-from_slice c.args.entries.now (cc)) (λ x b q k. search (rules, tests)))
