-- The receiver of a header that passes: a house, not suspended, and not the sender. Assumes nothing.
use Rattle.std.proofs.Common.{◌≡◌, ℕ, suc, Bool, true, false, cond, not, ◌||◌, eqb, List, [], ◌∷◌, is_some, Some, None, Ok, Err, Option, Result, refl, ap, subst}
use Rattle.std.specs.Option.{option_map}
use Rattle.std.specs.Str.{bytes_eq}
use Rattle.std.proofs.lemmas.Bool.{or_parts, eqb-false, false≢true}
use Rattle.faults.specs.declared.code.Code.TheVariants.{F01}
use Rattle.faults.specs.declared.code.Fault.{Fault}
use Rattle.frames.specs.Layout.{Parts, Named, in_branch, blocks_of, receiver_of}
use Rattle.keys.specs.Held.{bic_text}
use Rattle.settings.specs.Places.{bic_at, suspended_at}
use Rattle.settings.specs.declared.house.House.{House}
use Rattle.headers.specs.Headers.{place_named, fit, receiver_at, or_first, HeaderParts, header_faults, header_in, header_of}
use Rattle.headers.specs.Tables.{first_of}
use Rattle.headers.proofs.Tables.{ok_parts, none_fails}

-- the place of a house that is named is that of a house
house_by : (h : House) (hs : List House) (place : ℕ) (b : Bool) (o : Option ℕ) → ((n : ℕ) → o ≡ Some n → is_some (bic_at hs n) ≡ true)
    → cond b (Some 0) (option_map (λ n. suc n) o) ≡ Some place → is_some (bic_at (h ∷ hs) place) ≡ true
house_by h hs place true o later e = let z : 0 ≡ place = cc in subst (λ n. is_some (bic_at (h ∷ hs) n) ≡ true) z refl
house_by h hs place false None later e = absurd (cc)
house_by h hs place false (Some n) later e = let z : suc n ≡ place = cc in subst (λ m. is_some (bic_at (h ∷ hs) m) ≡ true) z (later n refl)

house_at : (t : List ℕ) (hs : List House) (place : ℕ) → place_named t hs ≡ Some place → is_some (bic_at hs place) ≡ true
house_at t [] place e = absurd (cc)
house_at t (h ∷ hs) place e = house_by h hs place (bytes_eq (bic_text h.bic) t) (place_named t hs) (λ n p. house_at t hs n p) e

-- who may receive: a house that is not suspended and not the sender
pub record Receives (hs : List House) (sender place : ℕ) : Type 0 where
  pub house : is_some (bic_at hs place) ≡ true
  pub active : suspended_at hs place ≡ false
  pub other : place ≡ sender → ⊥

abbrev Fits : List House → ℕ → Option ℕ → Type 0
Fits hs sender o = is_some o ≡ true → Receives hs sender (or_first o)

fit_by : (hs : List House) (sender place : ℕ) (t : List ℕ) (b : Bool) → place_named t hs ≡ Some place → (suspended_at hs place || eqb place sender) ≡ b → Fits hs sender (cond b None (Some place))
fit_by hs sender place t true p e h = absurd (false≢true h)
fit_by hs sender place t false p e h =
    let parts = or_parts (suspended_at hs place) (eqb place sender) e in
    record { house = house_at t hs place p; active = parts.0; other = eqb-false place sender parts.1 }

fit_at : (hs : List House) (sender : ℕ) (t : List ℕ) (o : Option ℕ) → place_named t hs ≡ o → Fits hs sender (fit hs sender o)
fit_at hs sender t None p h = absurd (false≢true h)
fit_at hs sender t (Some place) p h = fit_by hs sender place t (suspended_at hs place || eqb place sender) p refl h

fits_in_branch : (hs : List House) (sender : ℕ) (t : List ℕ) (b : Bool) → Fits hs sender (cond b (fit hs sender (place_named t hs)) None)
fits_in_branch hs sender t true h = fit_at hs sender t (place_named t hs) refl h
fits_in_branch hs sender t false h = absurd (false≢true h)

receives : (hs : List House) (sender : ℕ) (n : Named) → Fits hs sender (receiver_at hs sender n)
unfolding receiver_at
receives hs sender n = fits_in_branch hs sender n.bic (in_branch n)

passing : (b : Bool) (f : Fault) → cond (not b) (Some f) None ≡ None → b ≡ true
passing true f h = refl
passing false f h = absurd (cc)

by_blocks : (digits : List ℕ) (hs : List House) (sender : ℕ) (h : HeaderParts) (b : Option Parts)
    → ◌≡◌ {A = Result HeaderParts Fault} (elim b [ None ↦ Err (record { code = F01; field = 0; row = 0 }) | Some p ↦ header_in digits hs sender p ]) (Ok h)
    → Receives hs sender h.receiver
by_blocks digits hs sender h None e = absurd (cc)
by_blocks digits hs sender h (Some p) e =
    let n = receiver_of p.second in
    let q = ok_parts (first_of (header_faults digits hs sender p)) (record { receiver = or_first (receiver_at hs sender n); bic = n.bic; text = p.text }) h e in
    let there : is_some (receiver_at hs sender n) ≡ true = passing (is_some (receiver_at hs sender n)) _ (none_fails (header_faults digits hs sender p) 2 q.0) in
    subst (λ r. Receives hs sender r) (ap (λ x. x.receiver) q.1) (receives hs sender n there)

pub header_receiver : (digits : List ℕ) (hs : List House) (sender : ℕ) (c : List ℕ) (h : HeaderParts) → header_of digits hs sender c ≡ Ok h → Receives hs sender h.receiver
header_receiver digits hs sender c h e = by_blocks digits hs sender h (blocks_of c) e
