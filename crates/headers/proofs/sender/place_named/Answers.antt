use Rattle.std.proofs.Common.{sym, ap, ◌∙◌}
use Rattle.codes.specs.Bics.{bic_formed}
use Rattle.keys.specs.Held.{bic_text}
use Rattle.keys.proofs.Forms.{formed_some, formed_none}
use Rattle.settings.specs.Opened.{houses_of}
use Rattle.headers.specs.Headers.{place_named}
use Rattle.headers.proofs.Places.{place_same, place_unformed}
use Rattle.headers.proofs.sender.place_named.Goals as goal

pub returns : goal.returns
returns c =
    let t = c.args.text.now in
    let hs = houses_of c.args.settings.now in
    let bic = c.in_ok-bic.bic in
    c.place_of.ensures.place ∙ place_same bic hs ∙ ap (λ u. place_named u hs) (formed_some bic_formed t (bic_text bic) c.in_ok-bic.ensures).1

pub returns-in_err-bic : goal.returns-in_err-bic
returns-in_err-bic c =
    let t = c.args.text.now in
    c.from_residual.ensures ∙ sym (place_unformed t (houses_of c.args.settings.now) (formed_none bic_formed t c.in_err-bic.ensures))
