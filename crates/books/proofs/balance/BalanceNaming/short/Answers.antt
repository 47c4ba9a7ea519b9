use Rattle.std.proofs.Common.{ap, ◌∙◌, rules}
use Rattle.std.proofs.lemmas.Iterator.{YieldsList-from_slice, YieldsList-from_zip, IsFirst-from_position}
use Rattle.std.proofs.lemmas.Iterator.Adapters.{serves_from_places}
use Rattle.books.proofs.Lowest.{lowest, within, Short}
use Rattle.books.proofs.balance.BalanceNaming.short.Goals as goal

pub position-requires-clause-callable : goal.position-requires-clause-callable
position-requires-clause-callable c =
    serves_from_places
    (YieldsList-from_zip (YieldsList-from_slice c.args.balances.now (ap (λ s. s.rest.now) c.zip.ensures.first ∙ c.iter.ensures.rest)) (YieldsList-from_slice c.args.positions.now c.zip.ensures.second.0))
    (λ x q r. search rules) (λ x k h e. let w = within (λ b. b.cents) c.args.balances.now c.args.positions.now c.requires.sound.long c.requires.sound.within k (x.0.now, x.1.now) h e in search rules)

pub returns : goal.returns
returns c =
    lowest (λ b. b.cents) c.args.balances.now c.args.positions.now c.requires.sound.long c.position.result
    (IsFirst-from_position c.position.new.self _ c.position.result (Short (λ b. b.cents)) (λ x. Short (λ b. b.cents) x → ⊥) c.position.ensures.ran
    (YieldsList-from_zip (YieldsList-from_slice c.args.balances.now (ap (λ s. s.rest.now) c.zip.ensures.first ∙ c.iter.ensures.rest)) (YieldsList-from_slice c.args.positions.now c.zip.ensures.second.0))
    (λ x q r. search rules) (λ x q r. search rules))
