use Rattle.std.proofs.Common.{map, sym, subst₂, rules}
use Rattle.std.proofs.lemmas.Fn.{always_returns_same}
use Rattle.std.proofs.lemmas.Result.{err_from_is_err_and}
use Rattle.index.specs.Order.{key_of, Indexed}
use Rattle.index.proofs.Searches.{ordered_is, found, missed}
use Rattle.index.proofs.numbers.Index.find.Goals as goal

pub returns-in_err-place : goal.returns-in_err-place
returns-in_err-place g c =
    let order = g.met.K.Ord.total in
    let before = ordered_is g.K.Ord.cmp g.K.Key.before g.met.K.Key.ordered in
    let ks = map g.T.Keyed.called c.args.items.now in
    let is = c.as_slice-numbers.ensures.value in
    let held = subst₂ (λ b ns. Indexed b ks ns) (sym before) (sym is) c.requires in
    let position = c.in_err-place.ensures.position (key_of ks) (always_returns_same _ _ _ (λ a r f' k. search rules)) in
    let at = missed order ks c.as_slice-numbers.result.now c.args.key.now held c.in_err-place.field-0.0 c.in_err-place.ensures.bound position in
    let p = err_from_is_err_and c.from_residual.result c.from_residual.ensures.1 in
    rw (p.1, p.2, ← is, ← before) at

pub returns : goal.returns
returns g c =
    let order = g.met.K.Ord.total in
    let ks = map g.T.Keyed.called c.args.items.now in
    let is = c.as_slice-numbers.ensures.value in
    let position = c.in_ok-place.ensures.position (key_of ks) (always_returns_same _ _ _ (λ a r f' k. search rules)) in
    rw (← is) (found order ks c.as_slice-numbers.result.now c.args.key.now g.met.K.Key.same c.in_ok-place.place c.in_ok-place.ensures.bound position)
