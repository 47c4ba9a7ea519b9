-- Where a house is found. Assumes nothing.
use Rattle.std.proofs.Common.{◌≡◌, ℕ, zero, suc, false, cond, List, [], ◌∷◌, map, is_some, Some, None, Option, ◌≢◌, sym, refl, ap, ◌∙◌, arith}
use Rattle.std.specs.Option.{option_map, MatchOption}
use Rattle.std.specs.Ordering.{is_lt}
use Rattle.std.specs.Cmp.{tied_itself, nat_cmp_total}
use Rattle.index.specs.Order.{Complete}
use Rattle.index.proofs.Completes.{complete_apart}
use Rattle.keys.specs.Orders.{lesser}
use Rattle.std.proofs.lemmas.Bool.{eq-eqb, ne_eqb}
use Rattle.keys.specs.declared.bic.Bic.{Bic}
use Rattle.keys.specs.Held.{bic_text}
use Rattle.keys.specs.Same.{bic_same}
use Rattle.settings.specs.declared.house.House.{House}
use Rattle.settings.specs.declared.opening.HouseEntry.{HouseEntry}
use Rattle.settings.specs.Rules.{among}
use Rattle.settings.specs.Places.{bic_of, place_of, bic_at, held_house, given_house}
use Rattle.settings.proofs.Builds.{given_text, not_among}

-- the place that alone has the BIC
pub place_found : (hs : List House) (n : ℕ) (b : Bic) → bic_at hs n ≡ Some b → ((m : ℕ) → bic_at hs m ≡ Some b → m ≡ n) → place_of b hs ≡ Some n
place_found [] n b at alone = absurd (let z : ◌≡◌ {A = ℕ} 0 1 = cc in omega arith)
place_found (h ∷ hs) zero b at alone =
    let same : h.bic ≡ b = cc in
    ap (λ t. cond t (Some 0) (option_map (λ n. suc n) (place_of b hs))) (eq-eqb h.bic.code b.code (ap (λ x. x.code) same))
place_found (h ∷ hs) (suc n) b at alone =
    let never : h.bic.code ≡ b.code → ⊥ = λ e. let z : 0 ≡ suc n = alone 0 (ap (λ x. Some x) (bic_same h.bic b e)) in omega arith in
    let later : place_of b hs ≡ Some n = place_found hs n b at (λ m e. let z : suc m ≡ suc n = alone (suc m) e in omega arith) in
    ap (λ t. cond t (Some 0) (option_map (λ n. suc n) (place_of b hs))) (ne_eqb h.bic.code b.code never) ∙ ap (option_map (λ n. suc n)) later

pub place_none : (hs : List House) (b : Bic) → ((n : ℕ) → bic_at hs n ≡ Some b → ⊥) → place_of b hs ≡ None
place_none [] b lacks = refl
place_none (h ∷ hs) b lacks =
    let never : h.bic.code ≡ b.code → ⊥ = λ e. lacks 0 (ap (λ x. Some x) (bic_same h.bic b e)) in
    ap (λ t. cond t (Some 0) (option_map (λ n. suc n) (place_of b hs))) (ne_eqb h.bic.code b.code never) ∙ ap (option_map (λ n. suc n)) (place_none hs b (λ n e. lacks (suc n) e))

-- so what tells where the BIC stands is its place: the houses' BICs differ
pub place_told : (b : Bic) (hs : List House) (ns : List ℕ) → Complete lesser (map bic_of hs) ns → (r : Option ℕ) → MatchOption r ((n : ℕ) → bic_at hs n ≢ Some b) (λ n. bic_at hs n ≡ Some b) → r ≡ place_of b hs
place_told b hs ns held (Some n) at = sym (place_found hs n b at (λ m e. complete_apart lesser (map bic_of hs) ns (λ x. ap is_lt (tied_itself nat_cmp_total x.code)) b held m n e at))
place_told b hs ns held None none = sym (place_none hs b none)

-- the clearing has no place among houses whose BICs are not its own
pub clearing_apart : (hs : List House) (es : List HouseEntry) (b : Bic) (t : List ℕ) (d : HouseEntry) → map held_house hs ≡ map given_house es → bic_text b ≡ t → among t es ≡ false → is_some (place_of b hs) ≡ false
clearing_apart hs es b t d same text other = ap is_some (place_none hs b (λ n e.
    let was = given_text hs es same n b d e in
    not_among t es other n d was.0 (sym text ∙ was.1)))
