use Rattle.std.proofs.Common.{◌≡◌, ℕ, ◌+◌, ◌≤◌, List, [], ◌∷◌, ◌++◌, map, length, get_or, take, vec_items, vec_len, sym, subst, ap, ap₂, ◌∙◌, arith}
use Rattle.std.proofs.lemmas.List.{length-map, length-take, map_push, take_all, take_more}
use Rattle.books.proofs.account.open_each.Goals as goal

pub loop-sum-init : goal.loop-sum-init
loop-sum-init g c =
    let items = c.in_ok-accounts.ensures.items in
    (c.in_ok-accounts.ensures.capacity, (ap (map g.A.Account.cover_in) items, ap (map g.A.Account.pledge_in) items))

pub push_reserved-requires : goal.push_reserved-requires
push_reserved-requires g c =
    let sums = c.args.sums.now in
    let i : ℕ = c.loop-sum.sum-index in
    let accounts = vec_items c.loop-sum.accounts in
    let h = c.loop-sum-test.true in
    let roomy = c.loop-sum.invariant.0 in
    let size : vec_len c.loop-sum.accounts ≡ length accounts = c.loop-sum.accounts.ok.0 in
    let n = length-map accounts g.A.Account.cover_in in
    let e = ap length c.loop-sum.invariant.1.0 in
    let k = length-take i sums in
    omega arith

pub loop-sum-preserved : goal.loop-sum-preserved
loop-sum-preserved g c =
    let sums = c.args.sums.now in
    let i : ℕ = c.loop-sum.sum-index in
    let accounts = vec_items c.loop-sum.accounts in
    let more : take (i + 1) sums ≡ take i sums ++ get_or sums i 0 ∷ [] = take_more sums i 0 c.loop-sum-test.true in
    let items = c.push_reserved.ensures.items in (
      subst (λ n. length sums ≤ n) (sym c.push_reserved.ensures.capacity) c.loop-sum.invariant.0,
      (
        ap (map g.A.Account.cover_in) items
            ∙ map_push g.A.Account.cover_in accounts c.open.result
            ∙ ap₂ (λ (xs : List ℕ) x. xs ++ x ∷ []) c.loop-sum.invariant.1.0 c.open.ensures.cover
            ∙ sym more,
        ap (map g.A.Account.pledge_in) items
            ∙ map_push g.A.Account.pledge_in accounts c.open.result
            ∙ ap₂ (λ (xs : List ℕ) x. xs ++ x ∷ []) c.loop-sum.invariant.1.1 c.open.ensures.pledge
            ∙ sym (map_push g.A.Account.pledge_of (take i sums) (get_or sums i 0))
            ∙ ap (map g.A.Account.pledge_of) (sym more),
      ),
    )

pub returns-clause-covers : goal.returns-clause-covers
returns-clause-covers g c =
    let f = c.loop-sum-test.false in
    c.loop-sum.invariant.1.0 ∙ take_all c.loop-sum.sum-index c.args.sums.now (omega arith)

pub returns-clause-pledges : goal.returns-clause-pledges
returns-clause-pledges g c =
    let f = c.loop-sum-test.false in
    c.loop-sum.invariant.1.1 ∙ ap (map g.A.Account.pledge_of) (take_all c.loop-sum.sum-index c.args.sums.now (omega arith))
