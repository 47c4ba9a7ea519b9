use Rattle.std.proofs.Common.{◌≡◌, ◌+◌, ◌-◌, ◌∙◌, sym, ap, arith}
use Rattle.values.specs.Calendar.{days_of}
use Rattle.values.proofs.Months.{month_added}
use Rattle.values.proofs.dates.days_of.Goals as goal

pub loop-month-preserved : goal.loop-month-preserved
loop-month-preserved c =
    let s = c.loop-month.invariant in
    let next : c.loop-month.month + 1 - 1 ≡ c.loop-month.month = omega arith in
    (month_added c.args.year _ _ _ s.2 s.0 c.days_in-days.ensures.exact ∙ ap (λ m. days_of c.args.year m) (sym next), omega arith, omega arith, omega arith)

pub returns-2-clause-exact : goal.returns-2-clause-exact
returns-2-clause-exact c =
    let s = c.loop-month.invariant in
    let last : c.loop-month.month ≡ c.args.months = omega arith in
    month_added c.args.year _ _ _ s.2 s.0 c.days_in-days.ensures.exact ∙ ap (λ m. days_of c.args.year m) last
