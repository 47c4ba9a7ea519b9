use Rattle.std.proofs.Common.{◌≡◌, Ok, sym, ap, ◌∙◌, arith}
use Rattle.fields.specs.Value.{counted_of}
use Rattle.headers.specs.Headers.{header_of}
use Rattle.headers.specs.Read.{header_parts}
use Rattle.settings.specs.Opened.{houses_of}
use Rattle.text.specs.Reference.{is_reference}
use Rattle.kinds.specs.Terms.{terms_of}
use Rattle.kinds.specs.Verdicts.{text_read}
use Rattle.kinds.proofs.Payables.{text_payable}
use Rattle.kinds.proofs.judging.judge.Goals as goal

pub returns-clause-payable : goal.returns-clause-payable
returns-clause-payable g c =
    let k = g.K.Kind in
    let s = c.args.sender in
    let hs = houses_of s.settings.now in
    let h = header_parts c.in_ok-header.header in
    let header : header_of k.digits hs s.place c.args.content.now ≡ Ok h = sym (c.in_ok-header.ensures ∙ ap (λ d. header_of d hs s.place c.args.content.now) c.type_digits.ensures) in
    let ps = k.parts c.in_ok-contents.contents in
    let text : text_read k.reads (terms_of s.settings.now) h ≡ Ok ps = sym (c.in_ok-contents.ensures ∙ ap (λ t. text_read k.reads t h) c.terms_of.ensures) in
    let p = text_payable k.digits k.slot k.reads hs (terms_of s.settings.now) s.place c.args.content.now h ps c.laws.ensures header text in
    let amount = c.counted.ensures ∙ ap counted_of c.value.ensures in
    record {
      house = p.house;
      active = p.active;
      other = p.other;
      reference = ap is_reference c.reference.ensures ∙ p.reference;
      some = omega (arith, amount, p.some);
      few = omega (arith, amount, p.few);
    }
