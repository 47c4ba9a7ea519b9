use Rattle.std.proofs.Common.{◌<◌, length, drop, ap, ◌∙◌, rules}
use Rattle.text.proofs.Cuts.{row_next, row_shorter}
use Rattle.text.proofs.Joins.{good_next}
use Rattle.text.proofs.rows.RowsIterator.next.Goals as goal

pub returns-clause-steps : goal.returns-clause-steps
returns-clause-steps c =
    let some : 0 < length c.args.self.now.rest.now = search rules in
    record {
      rows = row_next _ _ _ _ _ some c.find_crlf-k.ensures c.front.ensures c.skip.ensures c.skip-self.ensures;
      rest = c.skip-self.ensures ∙ ap (drop 2) (c.skip.ensures ∙ ap (λ n. drop n c.args.self.now.rest.now) c.find_crlf-k.ensures);
      formed = good_next _ _ _ _ some c.find_crlf-k.ensures c.skip.ensures c.skip-self.ensures;
      shorter = row_shorter _ _ _ _ some c.skip.ensures c.skip-self.ensures;
    }

pub returns-clause-goes : goal.returns-clause-goes
returns-clause-goes c = record { on = λ f. (tt, tt, (returns-clause-steps c).shorter); keeps = tt; rests = λ f. tt }
