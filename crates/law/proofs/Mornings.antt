-- Two keepers with the same covers settle the same morning.
use Rattle.std.proofs.Common.{◌≡◌, ◌<◌, Bool, ◌⊎◌, List, length, sym, ap, ◌∙◌, inl, inr, arith}
use Rattle.std.proofs.lemmas.List.{ext_get_or}
use Rattle.records.specs.Records.{record_at, blank}
use Rattle.records.specs.declared.recorded.Record.{Record}
use Rattle.records.specs.declared.state.State.TheVariants.{SettledMorning}
use Rattle.netting.specs.Selections.{marked, Same}
use Rattle.netting.specs.Outcomes.{Morning}
use Rattle.netting.proofs.Choice.{same_morning}
use Rattle.day.specs.Changes.{put, stamp}
use Rattle.day.specs.Scene.{Scene}
use Rattle.day.specs.Settling.{MorningDone, AfternoonDone}
use Rattle.day.specs.declared.phase.Phase.TheVariants.{MorningCalculated}
use Rattle.day.proofs.Stores.{length_stamp, stamp_at}
use Rattle.law.specs.Laws.{SameMorning}

by_morning : (a b : Scene) → a.phase ≡ MorningCalculated → MorningDone a b ⊎ AfternoonDone a b → MorningDone a b
by_morning a b e d = elim d [ inl m ↦ m | inr m ↦ let due = m.due in cc ]

-- marks that select the same settle the same
stamp_same : (rs : List Record) (bs cs : List Bool) → Same rs (marked bs) (marked cs) → stamp bs rs ≡ stamp cs rs
stamp_same rs bs cs same =
    ext_get_or blank (stamp bs rs) (stamp cs rs) (length_stamp bs rs ∙ sym (length_stamp cs rs)) (λ i l.
    let k : i < length rs = omega (arith, length_stamp bs rs) in
    stamp_at bs rs i k ∙ ap (λ (b : Bool). put SettledMorning b (record_at rs i)) (same i k) ∙ sym (stamp_at cs rs i k))

pub same_mornings : SameMorning
same_mornings houses houses' a a' b b' due due' er ec d d' =
    let m = by_morning a b due d.1 in
    let w = by_morning a' b' due' d'.1 in
    let t : Morning a.records w.marks a.covers a'.sittings b'.covers b'.sittings = rw (← er, ← ec) w.morning in
    let same = same_morning a.records a.covers w.marks m.marks a'.sittings a.sittings b'.sittings b.sittings b'.covers b.covers t m.morning in (
      w.records ∙ ap (stamp w.marks) er ∙ stamp_same a.records w.marks m.marks same.0 ∙ sym m.records,
      same.1,
    )
