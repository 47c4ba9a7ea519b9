-- The BICs that are kept are those that are formed and differ. Assumes nothing.
use Rattle.std.proofs.Common.{◌≡◌, ℕ, suc, ◌<◌, true, false, not, ◌||◌, List, [], ◌∷◌, length, get_or, refl, ap, ◌∙◌, arith}
use Rattle.std.specs.Prelude.{◌≢◌}
use Rattle.std.specs.Str.{bytes_eq}
use Rattle.std.proofs.lemmas.Slice.Eq.{bytes_eq-Decides}
use Rattle.std.proofs.lemmas.Bool.{and_from, not_from_false, false_from_ne_true}
use Rattle.codes.specs.Bics.{bic_formed}
use Rattle.settings.specs.declared.opening.HouseEntry.{HouseEntry}
use Rattle.settings.specs.Rules.{entry_text, among, bic_kept, bics_kept, Distinct, BicsLaw}
use Rattle.settings.proofs.Builds.{formed_at, differ}

among_none : (t : List ℕ) (es : List HouseEntry) → ((j : ℕ) (d : HouseEntry) → j < length es → t ≢ entry_text (get_or es j d)) → among t es ≡ false
among_none t [] h = refl
among_none t (e ∷ es) h =
    let first : bytes_eq t (entry_text e) ≡ false = false_from_ne_true _ (λ k. h 0 e (omega arith) ((bytes_eq-Decides t (entry_text e)).0 k)) in
    ap (λ b. b || among t es) first ∙ among_none t es (λ j d k. h (suc j) d (omega arith))

kept_of : (es : List HouseEntry) → Distinct es → bics_kept es ≡ true
kept_of [] w = refl
kept_of (e ∷ es) w =
    let new = among_none (entry_text e) es (λ j d k. w.differ 0 (suc j) d (omega arith) (omega arith)) in
    and_from (bic_kept (entry_text e) es) (bics_kept es)
    (and_from (bic_formed (entry_text e)) (not (among (entry_text e) es)) (w.formed 0 e (omega arith)) (not_from_false _ new))
    (kept_of es (record { formed = λ i d k. w.formed (suc i) d (omega arith); differ = λ i j d lt k. w.differ (suc i) (suc j) d (omega arith) (omega arith) }))

pub bics_law : BicsLaw
bics_law es = (λ k. record { formed = formed_at es k; differ = differ es k }, kept_of es)
