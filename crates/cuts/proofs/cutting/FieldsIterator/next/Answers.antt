use Rattle.std.proofs.Common.{◌≡◌, true, ◌∷◌, drop, sym, ap, ◌∙◌, rules}
use Rattle.std.proofs.lemmas.Bool.{and_parts}
use Rattle.text.specs.Rows.{rows_of}
use Rattle.text.specs.Texts.{good}
use Rattle.cuts.specs.Cuts.{leads}
use Rattle.cuts.proofs.Pieces.{field_next, no_tag, whole_after}
use Rattle.cuts.proofs.cutting.FieldsIterator.next.Goals as goal

pub returns-in_err-tag-clause-steps : goal.returns-in_err-tag-clause-steps
returns-in_err-tag-clause-steps c =
    let t = c.args.self.now.rest.now in
    let e : rows_of t ≡ c.in_ok-row.row.now ∷ rows_of c.next.new.self.rest.now = sym (ap rows_of c.new-rows.ensures) ∙ c.in_ok-row.ensures.steps.rows in
    absurd (no_tag t c.in_ok-row.row.now c.next.new.self.rest.now c.args.self.now.whole e (sym c.tag_of.ensures.tag ∙ c.in_err-tag.was))

pub invariant_of-self : goal.invariant_of-self
invariant_of-self c =
    let t = c.args.self.now.rest.now in
    let g : good t ≡ true = (and_parts (good t) (leads (rows_of t)) c.args.self.now.whole).0 in
    let k : good c.next.new.self.rest.now ≡ true = c.in_ok-row.ensures.steps.formed (ap good c.new-rows.ensures ∙ g) in
    record { whole = whole_after c.next.new.self.rest.now c.from_tag-after.result.now c.from_tag-after.ensures.rows (c.from_tag-after.ensures.formed k) }

pub returns-clause-steps : goal.returns-clause-steps
returns-clause-steps c =
    let t = c.args.self.now.rest.now in
    let e : rows_of t ≡ c.in_ok-row.row.now ∷ rows_of c.next.new.self.rest.now = sym (ap rows_of c.new-rows.ensures) ∙ c.in_ok-row.ensures.steps.rows in
    let g : good t ≡ true = (and_parts (good t) (leads (rows_of t)) c.args.self.now.whole).0 in
    let k : good c.next.new.self.rest.now ≡ true = c.in_ok-row.ensures.steps.formed (ap good c.new-rows.ensures ∙ g) in
    let step = field_next t c.in_ok-row.row.now c.next.new.self.rest.now c.from_tag-after.result.now c.front.result.now c.skip.result.now c.in_ok-tag.tag c.args.self.now.whole e (sym c.tag_of.ensures.tag ∙ c.in_ok-tag.was)
    c.from_tag-after.ensures.rows (c.from_tag-after.ensures.formed k) c.front.ensures (c.skip.ensures ∙ ap (λ n. drop n c.front.result.now) c.size.ensures) in
    record { fields = step.0; cut = step.1; shorter = search rules }
