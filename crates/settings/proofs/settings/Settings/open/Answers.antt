use Rattle.std.proofs.Common.{ℕ, ◌≤◌, vec_items, sym, refl, ap, ◌∙◌, subst}
use Rattle.std.proofs.lemmas.Result.{err_from_is_err_and}
use Rattle.codes.specs.Bics.{bic_formed}
use Rattle.keys.specs.Held.{bic_text}
use Rattle.values.specs.Calendar.{valid_date}
use Rattle.values.specs.Currencies.{currency_formed}
use Rattle.values.specs.declared.dates.Date.{Date}
use Rattle.settings.specs.Rules.{house_limit, houses_kept}
use Rattle.settings.proofs.Steps.{no_entry}
use Rattle.settings.proofs.Builds.{same_size}
use Rattle.settings.proofs.Found.{clearing_apart}
use Rattle.settings.proofs.Opens.{made, no_houses, all_kept, houses_kept_lem}
use Rattle.settings.proofs.settings.Settings.open.Goals as goal

pub returns-then-not-are_houses_kept-clause-opened :
    goal.returns-then-not-are_houses_kept-clause-opened
returns-then-not-are_houses_kept-clause-opened c =
    let o = c.args.opening.now in
    let clearing = made bic_text c.read.result c.in_ok-clearing.clearing (bic_formed o.clearing.now) o.clearing.now c.in_ok-clearing.ensures.ok_part c.read.ensures in
    no_houses o (ap (λ t. houses_kept t o.houses.now) (sym clearing.1) ∙ sym c.if-not-are_houses_kept.ensures)

pub returns-in_err-directory-clause-opened : goal.returns-in_err-directory-clause-opened
returns-in_err-directory-clause-opened c =
    let o = c.args.opening.now in
    let date = made {T = Date} {U = ℕ × ℕ × ℕ} (λ d. (d.year, d.month, d.day)) c.new.result c.in_ok-date.date (valid_date o.year o.month o.day) (o.year, o.month, o.day) c.in_ok-date.ensures.ok_part c.new.ensures in
    let currency = made (λ x. x.letters) c.new-2.result c.in_ok-currency.currency (currency_formed o.currency.now) o.currency.now c.in_ok-currency.ensures.ok_part c.new-2.ensures in
    let clearing = made bic_text c.read.result c.in_ok-clearing.clearing (bic_formed o.clearing.now) o.clearing.now c.in_ok-clearing.ensures.ok_part c.read.ensures in
    let housed = ap (λ t. houses_kept t o.houses.now) (sym clearing.1) ∙ sym c.if-not-are_houses_kept.ensures in
    let p = err_from_is_err_and c.from_residual-in_err-directory.result c.from_residual-in_err-directory.ensures.1 in
    rw (p.1, p.2) (all_kept o date.0 currency.0 clearing.0 housed)

pub invariant_of-result : goal.invariant_of-result
invariant_of-result c =
    let o = c.args.opening.now in
    let own = bic_text c.in_ok-clearing.clearing in
    let hs = vec_items c.in_ok-directory.directory.houses in
    let housed = houses_kept_lem own o.houses.now (sym c.if-not-are_houses_kept.ensures) in
    let size = sym (same_size hs o.houses.now c.in_ok-directory.ensures) in
    record {
      some = subst (λ n. 1 ≤ n) size housed.some;
      few = subst (λ n. n ≤ house_limit) size housed.few;
      apart = clearing_apart hs o.houses.now c.in_ok-clearing.clearing own no_entry c.in_ok-directory.ensures refl housed.apart;
    }

pub returns-clause-opened : goal.returns-clause-opened
returns-clause-opened c =
    let o = c.args.opening.now in
    let date = made {T = Date} {U = ℕ × ℕ × ℕ} (λ d. (d.year, d.month, d.day)) c.new.result c.in_ok-date.date (valid_date o.year o.month o.day) (o.year, o.month, o.day) c.in_ok-date.ensures.ok_part c.new.ensures in
    let currency = made (λ x. x.letters) c.new-2.result c.in_ok-currency.currency (currency_formed o.currency.now) o.currency.now c.in_ok-currency.ensures.ok_part c.new-2.ensures in
    let clearing = made bic_text c.read.result c.in_ok-clearing.clearing (bic_formed o.clearing.now) o.clearing.now c.in_ok-clearing.ensures.ok_part c.read.ensures in
    let housed = ap (λ t. houses_kept t o.houses.now) (sym clearing.1) ∙ sym c.if-not-are_houses_kept.ensures in (
      all_kept o date.0 currency.0 clearing.0 housed,
      record {
        year = ap (λ p. p.0) date.1;
        month = ap (λ p. p.1) date.1;
        day = ap (λ p. p.2) date.1;
        currency = currency.1;
        clearing = clearing.1;
        houses = c.in_ok-directory.ensures;
      },
    )
