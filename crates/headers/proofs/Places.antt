-- A house is found by its BIC where its BIC's text is found. Assumes nothing.
use Rattle.std.proofs.Common.{◌≡◌, ℕ, suc, true, false, cond, List, [], ◌∷◌, Some, None, sym, refl, ap, ◌∙◌}
use Rattle.std.specs.Option.{option_map}
use Rattle.std.specs.Str.{bytes_eq}
use Rattle.std.proofs.lemmas.Bool.{both_ways, false≢true}
use Rattle.std.proofs.lemmas.Bool.Decides.{same_from_decides}
use Rattle.std.proofs.lemmas.Slice.Eq.{bytes_eq-Decides}
use Rattle.codes.specs.Bics.{bic_formed}
use Rattle.keys.specs.Held.{bic_text, same_bic}
use Rattle.keys.specs.declared.bic.Bic.{Bic}
use Rattle.keys.proofs.Same.{text_decides}
use Rattle.settings.specs.Places.{place_of}
use Rattle.settings.specs.declared.house.House.{House}
use Rattle.headers.specs.Headers.{place_named}

same_texts : (x y : Bic) → same_bic x y ≡ bytes_eq (bic_text x) (bic_text y)
same_texts x y = same_from_decides (same_bic x y) (bytes_eq (bic_text x) (bic_text y)) (text_decides x y) (bytes_eq-Decides (bic_text x) (bic_text y))

pub place_same : (b : Bic) (hs : List House) → place_of b hs ≡ place_named (bic_text b) hs
place_same b [] = refl
place_same b (h ∷ hs) = λ i. cond (same_texts h.bic b i) (Some 0) (option_map (λ n. suc n) (place_same b hs i))

other_text : (b : Bic) (t : List ℕ) → bic_formed t ≡ false → bytes_eq (bic_text b) t ≡ false
other_text b t other =
    let never : bic_text b ≡ t → ⊥ = λ e. both_ways (bic_formed t) other (ap bic_formed (sym e) ∙ b.formed) in
    sym (same_from_decides false (bytes_eq (bic_text b) t) ((λ (h : false ≡ true). absurd (false≢true h)), (λ e. absurd (never e))) (bytes_eq-Decides (bic_text b) t))

pub place_unformed : (t : List ℕ) (hs : List House) → bic_formed t ≡ false → place_named t hs ≡ None
place_unformed t [] other = refl
place_unformed t (h ∷ hs) other = λ i. cond (other_text h.bic t other i) (Some 0) (option_map (λ n. suc n) (place_unformed t hs other i))
