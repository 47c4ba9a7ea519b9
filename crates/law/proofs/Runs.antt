-- The laws hold wherever events lead from an opening.
use Rattle.std.proofs.Common.{◌≡◌, ℕ, ◌+◌, false, ◌⊎◌, List, [], ◌∷◌, ◌++◌, map, length, get_or, set, Option, Ok, Err, refl, ap, ◌∙◌, inl, inr, arith}
use Rattle.std.proofs.lemmas.Bool.{MatchBool-at_true, MatchBool-at_false}
use Rattle.std.proofs.lemmas.Bool.Decides.{eqb_tells}
use Rattle.keeper.specs.declared.answer.PayInDenial.{PayInDenial}
use Rattle.keeper.specs.declared.answer.PayInDenial.TheVariants as paid
use Rattle.records.specs.declared.recorded.Record.{Record}
use Rattle.day.specs.Phases.{phase_number}
use Rattle.day.specs.Answers.{calculate_answer, calculated_from, exclude_answer}
use Rattle.day.specs.Changes.{settled_at_last, excluded_with}
use Rattle.day.specs.Scene.{Scene}
use Rattle.day.specs.Settling.{Settles, Unmoved, MorningDone, AfternoonDone}
use Rattle.day.specs.declared.phase.Phase.{Phase}
use Rattle.day.specs.declared.phase.Phase.TheVariants.{MorningCollecting, MorningCalculated, AfternoonCollecting, AfternoonCalculated, Over}
use Rattle.day.specs.declared.answer.CalculateDenial.TheVariants as calculate
use Rattle.day.specs.declared.answer.SettleDenial.{SettleDenial}
use Rattle.day.specs.declared.answer.SettleDenial.TheVariants as settle
use Rattle.day.specs.declared.answer.ExcludeDenial.{ExcludeDenial}
use Rattle.day.specs.declared.answer.ExcludeDenial.TheVariants as exclude
use Rattle.law.specs.History.{Event, handed_in, calculated, settled, excluded, paid_in, taken}
use Rattle.law.specs.Runs.{at_opening, Accepted, Does, Ran}
use Rattle.law.specs.Laws.{LawOfTheDay}
use Rattle.law.proofs.Invariant.{Inv, Advance, advance}
use Rattle.law.proofs.Steps.{denied, accepted, collected, cover_paid, left_out, rest, morning_settled, opened, kept}

-- what holds of a scene after the events
abbrev Holds : List ℕ → List Event → Scene → Type 0
Holds opening t s = Inv opening t (phase_number s.phase) s.records s.covers

-- calculate is denied but where something is collected, and then moves on
collecting : (p : Phase) → Ok tt ≡ calculate_answer p
    → ((phase_number p ≡ 1) ⊎ (phase_number p ≡ 3)) × (phase_number (calculated_from p) ≡ phase_number p + 1)
collecting MorningCollecting e = (inl refl, refl)
collecting MorningCalculated e = cc
collecting AfternoonCollecting e = (inr refl, refl)
collecting AfternoonCalculated e = cc
collecting Over e = cc

staying : (p : Phase) → Err calculate.WrongPhase ≡ calculate_answer p → calculated_from p ≡ p
staying MorningCollecting e = cc
staying MorningCalculated e = refl
staying AfternoonCollecting e = cc
staying AfternoonCalculated e = refl
staying Over e = refl

-- exclude is denied but in the afternoon, calculated
fourth : (houses place : ℕ) (o : Option ℕ) (p : Phase) → Ok tt ≡ exclude_answer houses p o place → phase_number p ≡ 4
fourth houses place o MorningCollecting e = grind arith
fourth houses place o MorningCalculated e = grind arith
fourth houses place o AfternoonCollecting e = grind arith
fourth houses place o AfternoonCalculated e = refl
fourth houses place o Over e = grind arith

-- no denial counts as taken
exclude_denied : (place : ℕ) (denial : ExcludeDenial) → taken (excluded place (Err denial)) ≡ false
exclude_denied place exclude.NoSuchHouse = refl
exclude_denied place exclude.WrongPhase = refl
exclude_denied place exclude.NotRemembered = refl

pay_in_denied : (place amount : ℕ) (denial : PayInDenial) → taken (paid_in place amount (Err denial)) ≡ false
pay_in_denied place amount paid.NoSuchHouse = refl
pay_in_denied place amount paid.Refused = refl

-- a settlement that is denied leaves all but the house remembered
settle_denied : (houses : ℕ) (a b : Scene) (denial : SettleDenial) → Settles houses (Err denial) a b
    → Unmoved a b × (taken (settled (Err denial)) ≡ false)
settle_denied houses a b settle.WrongPhase d = (d.1, refl)
settle_denied houses a b settle.OtherHouses d = (d.2, refl)
settle_denied houses a b settle.NoSitting d = (d.3, refl)
settle_denied houses a b (settle.Short place cover) d = (d.4, refl)

-- a call moves a scene to another
moved : (opening : List ℕ) (e : Event) (t : List Event) (a b : Scene) (p : ℕ) (rs : List Record) (cs : List ℕ) → Holds opening t a
    → phase_number b.phase ≡ p → b.records ≡ rs → b.covers ≡ cs
    → Advance e (phase_number a.phase) a.records a.covers p rs cs → Holds opening (e ∷ t) b
moved opening e t a b p rs cs i ep er ec adv =
    rw (ep, er, ec) (advance opening e t (phase_number a.phase) a.records a.covers p rs cs i adv)

-- or leaves it
stayed : (opening : List ℕ) (e : Event) (t : List Event) (a b : Scene) → Holds opening t a → b.phase ≡ a.phase → b.records ≡ a.records
    → b.covers ≡ a.covers → taken e ≡ false → Holds opening (e ∷ t) b
stayed opening e t a b i ep er ec d =
    moved opening e t a b (phase_number a.phase) a.records a.covers i (ap phase_number ep) er ec
    (denied e (phase_number a.phase) a.records a.covers d)

unmoved : (opening : List ℕ) (e : Event) (t : List Event) (a b : Scene) → Holds opening t a → Unmoved a b → taken e ≡ false → Holds opening (e ∷ t) b
unmoved opening e t a b i u d = stayed opening e t a b i u.phase u.records u.covers d

morning : (opening : List ℕ) (t : List Event) (a b : Scene) → Holds opening t a → MorningDone a b → Holds opening (settled (Ok tt) ∷ t) b
morning opening t a b i m =
    rw (m.phase, m.records)
    (morning_settled opening t (phase_number a.phase) a.records m.marks a.covers a.sittings b.covers b.sittings i
    (ap phase_number m.due) m.morning)

afternoon : (opening : List ℕ) (t : List Event) (a b : Scene) → Holds opening t a → AfternoonDone a b → Holds opening (settled (Ok tt) ∷ t) b
afternoon opening t a b i m =
    moved opening (settled (Ok tt)) t a b 5 (map settled_at_last a.records) b.covers i (ap phase_number m.phase) m.records refl
    (rest (phase_number a.phase) a.records a.covers a.sittings b.covers b.sittings (ap phase_number m.due) m.booked)

-- a file that is answered 0
filed : (opening : List ℕ) (t : List Event) (control messages number : ℕ) (a b : Scene) → Holds opening t a → number ≡ 0
    → Accepted control messages a b → Holds opening (handed_in control messages number ∷ t) b
filed opening t control messages number a b i z f =
    rw z
    (moved opening (handed_in control messages 0) t a b (phase_number a.phase) (a.records ++ f.new) a.covers i (ap phase_number f.phase) f.records f.covers
    (accepted control messages (phase_number a.phase) f.new a.records a.covers f.count f.total f.untouched))

step : (opening : List ℕ) (t : List Event) (houses : ℕ) (a b : Scene) (i : Holds opening t a) (e : Event) → Does houses e a b → Holds opening (e ∷ t) b
step opening t houses a b i (handed_in control messages number) d =
    elim (eqb_tells number 0) [
      | inl z ↦ filed opening t control messages number a b i z.1 (MatchBool-at_true (Accepted control messages a b) _ z.0 d)
      | inr z ↦ unmoved opening (handed_in control messages number) t a b i
          (MatchBool-at_false (Accepted control messages a b) (Unmoved a b × (b.remembered ≡ a.remembered)) z.0 d).0 z.0
    ]
step opening t houses a b i (calculated (Ok done)) d =
    let c = collecting a.phase d.0 in
    moved opening (calculated (Ok tt)) t a b (phase_number a.phase + 1) a.records a.covers i (ap phase_number d.1 ∙ c.1) d.3 d.4
    (collected (phase_number a.phase) a.records a.covers c.0)
step opening t houses a b i (calculated (Err calculate.WrongPhase)) d =
    stayed opening (calculated (Err calculate.WrongPhase)) t a b i (d.1 ∙ staying a.phase d.0) d.3 d.4 refl
step opening t houses a b i (settled (Ok done)) d =
    elim d.1 [ inl m ↦ morning opening t a b i m | inr m ↦ afternoon opening t a b i m ]
step opening t houses a b i (settled (Err denial)) d =
    let u = settle_denied houses a b denial d in unmoved opening (settled (Err denial)) t a b i u.0 u.1
step opening t houses a b i (excluded place (Ok done)) d =
    moved opening (excluded place (Ok tt)) t a b (phase_number a.phase) (map (excluded_with place) a.records) a.covers i (ap phase_number d.3) d.1 d.4
    (left_out place (phase_number a.phase) a.records a.covers (fourth houses place a.remembered a.phase d.0))
step opening t houses a b i (excluded place (Err denial)) d =
    stayed opening (excluded place (Err denial)) t a b i d.3 d.1 d.4 (exclude_denied place denial)
step opening t houses a b i (paid_in place amount (Ok done)) d =
    moved opening (paid_in place amount (Ok tt)) t a b (phase_number a.phase) a.records (set a.covers place (get_or a.covers place 0 + amount)) i
    (ap phase_number d.2) d.4 d.1 (cover_paid place amount (phase_number a.phase) a.records a.covers)
step opening t houses a b i (paid_in place amount (Err denial)) d =
    stayed opening (paid_in place amount (Err denial)) t a b i d.2 d.4 d.1 (pay_in_denied place amount denial)

holds : (houses : ℕ) (opening : List ℕ) (s : ℕ) (t : List Event) (z : Scene) → Ran houses (at_opening opening s) t z → Holds opening t z
holds houses opening s [] z ran = rw ran (opened opening)
holds houses opening s (e ∷ t) z (mid, before, does) =
    step opening t houses mid z (holds houses opening s t mid before) e does

-- the theorem
pub law : LawOfTheDay
law opening s t z ran = kept opening t (phase_number z.phase) z.records z.covers (holds (length opening) opening s t z ran)
