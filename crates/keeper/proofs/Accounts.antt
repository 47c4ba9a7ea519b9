-- The law of a run, step by step.
use Rattle.std.proofs.Common.{◌≡◌, ℕ, zero, suc, ◌+◌, ◌<◌, ◌≤◌, Bool, true, false, cond, eqb, ◌≢◌, List, [], ◌∷◌, length, get_or, set, Ok, Err, pos, sym, refl, ap, ◌∙◌, subst, inl, inr, add-one, arith, length-set}
use Rattle.std.proofs.lemmas.List.{get_or-set_same, get_or-set_other, get_or_default}
use Rattle.std.proofs.lemmas.Int.{ints}
use Rattle.std.proofs.lemmas.Bool.{cases_Bool}
use Rattle.std.proofs.lemmas.Bool.Decides.{eqb_tells, leb_tells, nat_tests}
use Rattle.keeper.specs.Numbers.{pay_in_number}
use Rattle.keeper.specs.PayIns.{pay_in_answer, acceptable}
use Rattle.keeper.specs.Runs.{Standing, Event, history, Does, Ran, taken, paid_to, position_in, sitting_of, Accounted, Carried}
use Rattle.keeper.specs.declared.answer.OfferDenial.TheVariants as offer
use Rattle.keeper.specs.declared.answer.PayInDenial.TheVariants as paid
use Rattle.keeper.specs.declared.step.Step.{Step}
use Rattle.keeper.specs.declared.step.Step.TheVariants.{Offer, PayIn}
use Rattle.keeper.specs.declared.step.StepAnswer.{StepAnswer}
use Rattle.keeper.specs.declared.step.StepAnswer.TheVariants as answer
use Rattle.keeper.proofs.Added.{add_each_length, add_each_at}

-- a pay-in that is taken is for a house, and of an acceptable sum
pub paid_in : (covers : List ℕ) (place amount : ℕ) (done : Unit {0}) → Ok done ≡ pay_in_answer covers place amount
    → (place < length covers) × (acceptable covers amount ≡ true)
paid_in covers place amount done e =
    elim (leb_tells (suc place) (length covers)) [
      | inl a ↦
          let q = e ∙ ap (λ (b : Bool). cond b (cond (acceptable covers amount) (Ok tt) (Err paid.Refused)) (Err paid.NoSuchHouse)) a.0 in
          elim (cases_Bool (acceptable covers amount)) [
            | inl t ↦ (a.1, t)
            | inr f ↦ absurd (let z : ◌≡◌ {A = ℕ} 0 19 = ap pay_in_number (q ∙ ap (λ (b : Bool). cond b (Ok tt) (Err paid.Refused)) f) in omega arith)
          ]
      | inr a ↦ absurd (let z : ◌≡◌ {A = ℕ} 0 1 = ap pay_in_number (e ∙ ap (λ (b : Bool). cond b (cond (acceptable covers amount) (Ok tt) (Err paid.Refused)) (Err paid.NoSuchHouse)) a.0) in omega arith)
    ]

set_gain : (xs : List ℕ) (p n j : ℕ) → p < length xs → get_or (set xs p (get_or xs p 0 + n)) j 0 ≡ get_or xs j 0 + cond (eqb p j) n 0
set_gain xs p n j h =
    elim (eqb_tells p j) [
      | inl e ↦ let s : get_or (set xs p (get_or xs p 0 + n)) p 0 ≡ get_or xs p 0 + n = get_or-set_same xs p (get_or xs p 0 + n) 0 h in
          let q = e.1 in grind (arith, nat_tests)
      | inr e ↦ let ne : j ≢ p = λ q. e.1 (sym q) in
          let s : get_or (set xs p (get_or xs p 0 + n)) j 0 ≡ get_or xs j 0 = get_or-set_other xs p j (get_or xs p 0 + n) 0 ne in
          grind (arith, nat_tests)
    ]

-- a step that changes nothing and was not taken
same : (first mid last : Standing) (es : List Event) (s : Step) (a : StepAnswer) → taken a ≡ false
    → last.covers ≡ mid.covers → last.sittings ≡ mid.sittings → Accounted first es mid
    → Accounted first (record { step = s; answer = a } ∷ es) last
same first mid last es s a denied ec es' acc =
    record {
      houses = ap length ec ∙ acc.houses;
      cover = λ h l.
          let i = acc.cover h l in
          let q = ap (λ (xs : List ℕ). get_or xs h 0) ec in
          let x : cond (taken a) (paid_to h s) 0 ≡ 0 = ap (λ (b : Bool). cond b (paid_to h s) 0) denied in
          let y : cond (taken a) (position_in h s) (pos 0) ≡ pos 0 = ap (λ (b : Bool). cond b (position_in h s) (pos 0)) denied in
          omega (arith, ints);
      sittings =
          let i = acc.sittings in
          let x : cond (taken a) (sitting_of s) 0 ≡ 0 = ap (λ (b : Bool). cond b (sitting_of s) 0) denied in
          omega arith;
    }

step : (first mid last : Standing) (es : List Event) (s : Step) (a : StepAnswer) → Accounted first es mid → Does s a mid last
    → Accounted first (record { step = s; answer = a } ∷ es) last
step first mid last es (Offer ps) (answer.Offer (Ok done)) acc (ans, ec, en) =
    record {
      houses = ap length ec ∙ add_each_length mid.covers ps.now ∙ acc.houses;
      cover = λ h l.
          let i = acc.cover h l in
          let e = acc.houses in
          let q = ap (λ (xs : List ℕ). get_or xs h 0) ec in
          let d = add_each_at mid.covers ps.now ans.0.long ans.2 h (omega arith) in
          omega (arith, ints);
      sittings = let i = acc.sittings in let z = ans.1 in omega arith;
    }
step first mid last es (Offer ps) (answer.Offer (Err offer.Unsound)) acc (ans, ec, en) = same first mid last es (Offer ps) (answer.Offer (Err offer.Unsound)) refl ec en acc
step first mid last es (Offer ps) (answer.Offer (Err offer.NoSitting)) acc (ans, ec, en) = same first mid last es (Offer ps) (answer.Offer (Err offer.NoSitting)) refl ec en acc
step first mid last es (Offer ps) (answer.Offer (Err (offer.Short p c))) acc (ans, ec, en) = same first mid last es (Offer ps) (answer.Offer (Err (offer.Short p c))) refl ec en acc
step first mid last es (Offer ps) (answer.PayIn r) acc d = absurd d
step first mid last es (PayIn place amount) (answer.Offer r) acc d = absurd d
step first mid last es (PayIn place amount) (answer.PayIn (Ok done)) acc (ans, ec, en) =
    let here = (paid_in mid.covers place amount done ans).0 in
    record {
      houses = ap length ec ∙ length-set mid.covers place _ ∙ acc.houses;
      cover = λ h l.
          let i = acc.cover h l in
          let q = ap (λ (xs : List ℕ). get_or xs h 0) ec in
          let g = set_gain mid.covers place amount h here in
          omega (arith, ints);
      sittings = let i = acc.sittings in omega arith;
    }
step first mid last es (PayIn place amount) (answer.PayIn (Err paid.NoSuchHouse)) acc (ans, ec, en) = same first mid last es (PayIn place amount) (answer.PayIn (Err paid.NoSuchHouse)) refl ec en acc
step first mid last es (PayIn place amount) (answer.PayIn (Err paid.Refused)) acc (ans, ec, en) = same first mid last es (PayIn place amount) (answer.PayIn (Err paid.Refused)) refl ec en acc

none : (first : Standing) → Accounted first [] first
none first = record { houses = refl; cover = λ h l. omega (arith, ints); sittings = omega arith }

-- the law holds of every run
pub accounted : (first : Standing) (es : List Event) (last : Standing) → Ran first es last → Accounted first es last
accounted first [] last ran = subst (λ (x : Standing). Accounted first [] x) (sym ran) (none first)
accounted first (e ∷ es) last (mid, ran, does) = step first mid last es e.step e.answer (accounted first es mid ran) does

history_past : (steps : List Step) (answers : List StepAnswer) (i j : ℕ) (r : StepAnswer) → j ≤ i
    → history steps (set answers i r) j ≡ history steps answers j
history_past steps answers i zero r l = refl
history_past steps answers i (suc j) r l =
    let ih = history_past steps answers i j r (omega arith) in
    let ne : j ≢ i = λ e. absurd (omega arith) in
    let g = get_or-set_other answers i j r (answer.Offer (Err offer.Unsound)) ne in
    cc

-- one more step
pub ran_more : (first mid last : Standing) (steps : List Step) (answers : List StepAnswer) (i : ℕ) (r : StepAnswer) (d : Step)
    → i < length steps → i < length answers → Ran first (history steps answers i) mid → Does (get_or steps i d) r mid last
    → Ran first (history steps (set answers i r) (i + 1)) last
ran_more first mid last steps answers i r d l k ran does =
    rw add-one (
      mid,
      subst (λ (es : List Event). Ran first es mid) (sym (history_past steps answers i i r (omega arith))) ran,
      subst (λ (x : StepAnswer). Does (get_or steps i (PayIn 0 0)) x mid last) (sym (get_or-set_same answers i r (answer.Offer (Err offer.Unsound)) k))
          (subst (λ (x : Step). Does x r mid last) (get_or_default steps i d (PayIn 0 0) l) does),
    )

-- the steps are done: it was a run, and the law holds of it
pub carried : (first last : Standing) (steps : List Step) (answers : List StepAnswer) (i n : ℕ) → i ≡ n
    → Ran first (history steps answers i) last → Carried first (history steps answers n) last
carried first last steps answers i n e ran =
    let r : Ran first (history steps answers n) last = subst (λ (k : ℕ). Ran first (history steps answers k) last) e ran in
    record { ran = r; accounted = accounted first (history steps answers n) last r }
