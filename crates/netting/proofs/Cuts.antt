-- One step of a cut: the latest payment of a short house leaves.
use Rattle.std.proofs.Common.{◌≡◌, ◌∙◌, ap, sym, ℕ, ◌+◌, ◌<◌, Bool, false, List, [], ◌∷◌, ◌++◌, append_assoc, length, get_or, take, drop, set, ℤ, pos, sym, arith}
use Rattle.std.proofs.Math.Seq.{take-append_seam, get_or-append_seam}
use Rattle.std.proofs.lemmas.List.{take-append-drop, length-append}
use Rattle.keeper.specs.Offers.{Lacks}
use Rattle.records.specs.Records.{record_at, blank}
use Rattle.records.specs.declared.recorded.Record.{Record}
use Rattle.netting.specs.Selections.{marked, sent, received}
use Rattle.netting.specs.Steps.{Standing, Latest, NoneFrom, Without, InStep, count}
use Rattle.netting.proofs.Greatest.{standing_without, short_sends, count_without}
use Rattle.netting.proofs.Offers.{lacks_short}
use Rattle.netting.proofs.Shifts.{unmark}

-- Walking back over the records: of what is ahead, their front, r is the last.
module _ (front ahead rs : List Record) (r : Record) (is : ahead ≡ front ++ r ∷ []) (first : ahead ≡ take (length ahead) rs) where
  whole : rs ≡ front ++ (r ∷ drop (length ahead) rs)
  whole =
      sym (take-append-drop (length ahead) rs) ∙ (ap (λ (xs : List Record). xs ++ drop (length ahead) rs) (sym first ∙ is) ∙ append_assoc front (r ∷ []) (drop (length ahead) rs))

  -- the rest is their front still
  pub front_ahead : front ≡ take (length front) rs
  front_ahead = sym (ap (take (length front)) whole ∙ take-append_seam front (r ∷ drop (length ahead) rs))

  pub last_below : length front < length rs
  last_below = let e = ap length whole ∙ length-append front (r ∷ drop (length ahead) rs) in omega arith

  pub last_at : record_at rs (length front) ≡ r
  last_at = ap (λ (xs : List Record). record_at xs (length front)) whole ∙ get_or-append_seam front r (drop (length ahead) rs) blank

module _ (n : ℕ) (rs : List Record) (marks : List Bool) (xs : List ℤ) (step : InStep n rs marks xs) (h cover : ℕ) (here : h < n)
    (lacks : Lacks cover (get_or xs h (pos 0))) where
  short : received rs (marked marks) h + cover < sent rs (marked marks) h
  short = lacks_short rs (marked marks) n xs h cover step.at here lacks

  -- a house that is short has a payment to lose
  pub some_by : NoneFrom rs (marked marks) h 0 → ⊥
  some_by none = let z = short_sends rs (marked marks) h none in let s = short in omega arith

  module _ (p : ℕ) (latest : Latest rs (marked marks) h p) where
    out : Without (marked marks) p (marked (set marks p false))
    out =
        let l = latest.here in
        let k = step.long in
        unmark marks p (omega arith)

    pub cut_stands : (covers : List ℕ) → h < length covers → get_or covers h 0 ≡ cover → Standing rs covers (marked marks)
        → Standing rs covers (marked (set marks p false))
    cut_stands covers l e stands =
        let s = short in
        let t : received rs (marked marks) h + get_or covers h 0 < sent rs (marked marks) h = omega arith in
        standing_without rs covers (marked marks) (marked (set marks p false)) h p stands l t latest out

    pub cut_fewer : count rs (marked (set marks p false)) < count rs (marked marks)
    cut_fewer = let e = count_without rs (marked marks) (marked (set marks p false)) p latest.here latest.held out in omega arith
