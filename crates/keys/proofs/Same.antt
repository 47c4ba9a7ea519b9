-- What tells keys apart. Assumes nothing.
use Rattle.std.proofs.Common.{◌≡◌, ℕ, Bool, false, List, Some, None, Option, Decides, sym, ap, ◌∙◌, subst}
use Rattle.std.specs.Option.{option_map, MatchOption}
use Rattle.std.specs.Str.{bytes_eq}
use Rattle.std.proofs.lemmas.Bool.{eqb-true, eq-eqb, both_ways, false_from_ne_true}
use Rattle.std.proofs.lemmas.Bool.Decides.{same_from_decides, Decides-at}
use Rattle.std.proofs.lemmas.Slice.Eq.{bytes_eq-Decides}
use Rattle.codes.specs.Bics.{bic_formed}
use Rattle.keys.specs.Texts.{spelled, formed_only}
use Rattle.keys.specs.Held.{bic_text, same_bic}
use Rattle.keys.specs.declared.bic.Bic.{Bic}
use Rattle.keys.proofs.Packs.{same_from_spelled}
use Rattle.keys.proofs.Forms.{formed_some, formed_none}

-- two BICs have the same text just when they are the same
pub text_decides : (x y : Bic) → Decides (same_bic x y) (bic_text x ≡ bic_text y)
text_decides x y = (λ t. ap spelled (eqb-true x.code y.code t), λ e. eq-eqb x.code y.code (same_from_spelled x.code y.code e))

-- a text writes the BIC b just when what is read of it is b
pub written_by : (b : Bic) (o : Option Bic) (t : List ℕ) (r : Bool) → option_map bic_text o ≡ formed_only bic_formed t → MatchOption o (r ≡ false) (λ x. r ≡ same_bic b x) → r ≡ bytes_eq (bic_text b) t
written_by b (Some x) t r read is =
    let at : bic_text x ≡ t = (formed_some bic_formed t (bic_text x) read).1 in
    same_from_decides r (bytes_eq (bic_text b) t) (subst (λ u. Decides r (bic_text b ≡ u)) at (Decides-at r (same_bic b x) is (text_decides b x))) (bytes_eq-Decides (bic_text b) t)
written_by b None t r read is =
    let other : bic_formed t ≡ false = formed_none bic_formed t read in
    let never : bic_text b ≡ t → ⊥ = λ e. both_ways (bic_formed t) other (ap bic_formed (sym e) ∙ b.formed) in
    is ∙ sym (false_from_ne_true _ (λ h. never ((bytes_eq-Decides (bic_text b) t).0 h)))
