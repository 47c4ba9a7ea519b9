use Rattle.std.proofs.Common.{◌≡◌, [], sym, ap, ◌∙◌, rules}
use Rattle.std.proofs.lemmas.Bool.{and_left, and_right, ne_eqb, eq-eqb, and_from}
use Rattle.std.proofs.lemmas.List.{nil_from_length}
use Rattle.text.specs.Texts.{good}
use Rattle.text.proofs.Joins.{Turn, good_more, good_short, good_not, opens_is, text_law}
use Rattle.text.proofs.form.is_formed.Goals as goal

pub returns-then-byte-ne58 : goal.returns-then-byte-ne58
returns-then-byte-ne58 c = record {
  test = sym (and_right _ _ (opens_is c.args.text.now ∙ ne_eqb _ _ (λ e. c.if-byte-ne58.true (c.byte.ensures ∙ e))));
  law = text_law;
}

pub returns-then-not-is_crlf : goal.returns-then-not-is_crlf
returns-then-not-is_crlf c =
    let n : Turn c.loop-rest.rest.now c.skip-after.result.now c.run-k.result = record {
      some = search rules;
      long = c.run-k.ensures;
      tail = c.skip-after.ensures;
    } in
    record { test = sym (and_left _ _ (sym c.loop-rest.invariant ∙ good_short _ _ _ n c.if-not-is_crlf.ensures)); law = text_law }

pub returns-then-not-is_begun : goal.returns-then-not-is_begun
returns-then-not-is_begun c =
    let n : Turn c.loop-rest.rest.now c.skip-after.result.now c.run-k.result = record {
      some = search rules;
      long = c.run-k.ensures;
      tail = c.skip-after.ensures;
    } in
    record { test = sym (and_left _ _ (sym c.loop-rest.invariant ∙ good_not _ _ _ _ n c.front.ensures c.if-not-is_crlf.ensures c.if-not-is_begun.ensures)); law = text_law }

pub loop-rest-preserved : goal.loop-rest-preserved
loop-rest-preserved c =
    let n : Turn c.loop-rest.rest.now c.skip-after.result.now c.run-k.result = record {
      some = search rules;
      long = c.run-k.ensures;
      tail = c.skip-after.ensures;
    } in
    good_more _ _ _ _ _ n c.front.ensures c.skip-rest.ensures c.if-not-is_crlf.ensures c.if-not-is_begun.ensures ∙ c.loop-rest.invariant

pub returns : goal.returns
returns c =
    let none : c.loop-rest.rest.now ≡ [] = nil_from_length _ (search rules) in
    let o = opens_is c.args.text.now ∙ eq-eqb _ _ (sym c.byte.ensures ∙ c.if-byte-ne58.false) in
    record { test = sym (and_from _ _ (sym c.loop-rest.invariant ∙ ap good none) o); law = text_law }
