-- A directory of houses as it grows. Assumes nothing.
use Rattle.std.proofs.Common.{◌≡◌, ℕ, zero, suc, ◌+◌, ◌<◌, ◌≤◌, true, false, List, [], ◌∷◌, ◌++◌, map, length, get_or, take, is_some, Some, None, Option, vec_items, sym, refl, ap, ◌∙◌, subst, not-suc-le-zero, arith}
use Rattle.std.specs.Option.{option_map, IsSome}
use Rattle.std.specs.Str.{bytes_eq}
use Rattle.std.proofs.lemmas.Slice.Eq.{bytes_eq-Decides}
use Rattle.std.proofs.lemmas.List.{get_or-map, length-map, map_push, map_more, length-take-le, get_or-take}
use Rattle.std.proofs.lemmas.Simd.{map-map}
use Rattle.std.proofs.lemmas.Bool.{and_parts, not-true, both_ways, or_parts}
use Rattle.index.specs.Order.{key_of}
use Rattle.index.proofs.Optional.{item_below}
use Rattle.keys.specs.declared.bic.Bic.{Bic}
use Rattle.codes.specs.Bics.{bic_formed}
use Rattle.keys.specs.Held.{bic_text}
use Rattle.keys.specs.Texts.{formed_only}
use Rattle.keys.proofs.Forms.{formed_none}
use Rattle.settings.specs.declared.directory.Directory.{Directory}
use Rattle.settings.specs.declared.house.House.{House}
use Rattle.settings.specs.Room.{room}
use Rattle.settings.specs.declared.opening.HouseEntry.{HouseEntry}
use Rattle.settings.specs.Rules.{entry_text, among, bic_kept, bics_kept}
use Rattle.settings.specs.Places.{bic_of, held_house, given_house}

-- the first i entries have become houses, and there is memory for all
pub record Built (es : List HouseEntry) (i : ℕ) (d : Directory) : Type 0 where
  pub roomy : length es ≤ room d
  pub same : map held_house (vec_items d.houses) ≡ map given_house (take i es)

-- entries whose BICs keep the rules: each is formed, and none is a later one's
pub formed_at : (es : List HouseEntry) → bics_kept es ≡ true → (i : ℕ) (d : HouseEntry) → i < length es → bic_formed (entry_text (get_or es i d)) ≡ true
formed_at [] k i d h = absurd (not-suc-le-zero h)
formed_at (e ∷ es) k zero d h = (and_parts (bic_formed (entry_text e)) _ (and_parts (bic_kept (entry_text e) es) (bics_kept es) k).0).0
formed_at (e ∷ es) k (suc i) d h = formed_at es (and_parts (bic_kept (entry_text e) es) (bics_kept es) k).1 i d (omega arith)

-- a BIC that is not among the entries is none of theirs
pub not_among : (t : List ℕ) (es : List HouseEntry) → among t es ≡ false → (i : ℕ) (d : HouseEntry) → i < length es → t ≡ entry_text (get_or es i d) → ⊥
not_among t [] k i d h e = not-suc-le-zero h
not_among t (x ∷ es) k zero d h e = both_ways (bytes_eq t (entry_text x)) (or_parts (bytes_eq t (entry_text x)) (among t es) k).0 ((bytes_eq-Decides t (entry_text x)).1 e)
not_among t (x ∷ es) k (suc i) d h e = not_among t es (or_parts (bytes_eq t (entry_text x)) (among t es) k).1 i d (omega arith) e

pub differ : (es : List HouseEntry) → bics_kept es ≡ true → (i j : ℕ) (d : HouseEntry) → i < j → j < length es → entry_text (get_or es i d) ≡ entry_text (get_or es j d) → ⊥
differ [] k i j d lt h e = not-suc-le-zero h
differ (x ∷ es) k i zero d lt h e = not-suc-le-zero lt
differ (x ∷ es) k zero (suc j) d lt h e = not_among (entry_text x) es (not-true (among (entry_text x) es) (and_parts (bic_formed (entry_text x)) _ (and_parts (bic_kept (entry_text x) es) (bics_kept es) k).0).1) j d (omega arith) e
differ (x ∷ es) k (suc i) (suc j) d lt h e = differ es (and_parts (bic_kept (entry_text x) es) (bics_kept es) k).1 i j d (omega arith) (omega arith) e

-- the house that has the BIC b was given with b's characters
texts_held : (hs : List House) (n : ℕ) (b : Bic) → key_of (map bic_of hs) n ≡ Some b → get_or (map (λ h. (held_house h).0) hs) n [] ≡ bic_text b
texts_held [] n b key = absurd (let z : ◌≡◌ {A = ℕ} 0 1 = cc in omega arith)
texts_held (h ∷ hs) zero b key = let same : h.bic ≡ b = cc in ap bic_text same
texts_held (h ∷ hs) (suc n) b key = texts_held hs n b key

pub same_size : (hs : List House) (fs : List HouseEntry) → map held_house hs ≡ map given_house fs → length hs ≡ length fs
same_size hs fs same = sym (length-map hs held_house) ∙ ap length same ∙ length-map fs given_house

pub given_text : (hs : List House) (fs : List HouseEntry) → map held_house hs ≡ map given_house fs → (n : ℕ) (b : Bic) (d : HouseEntry) → key_of (map bic_of hs) n ≡ Some b → (n < length fs) × (bic_text b ≡ entry_text (get_or fs n d))
given_text hs fs same n b d key =
    let within : n < length fs = subst (λ m. n < m) (same_size hs fs same) (item_below bic_of hs n (ap is_some key)) in
    let texts : map (λ h. (held_house h).0) hs ≡ map entry_text fs = sym (map-map (λ p. p.0) held_house hs) ∙ ap (map (λ p. p.0)) same ∙ map-map (λ p. p.0) given_house fs in
    (within, sym (texts_held hs n b key) ∙ ap (λ ts. get_or ts n []) texts ∙ get_or-map entry_text fs n d [] within)

-- the BIC of an entry that keeps the rules is read
pub read_some : (o : Option Bic) (t : List ℕ) → option_map bic_text o ≡ formed_only bic_formed t → bic_formed t ≡ true → IsSome o
read_some (Some b) t read formed = refl
read_some None t read formed = absurd (both_ways (bic_formed t) (formed_none bic_formed t read) formed)

pub held_size : (es : List HouseEntry) (i : ℕ) (hs : List House) → i < length es → map held_house hs ≡ map given_house (take i es) → length hs ≡ i
held_size es i hs h same = same_size hs (take i es) same ∙ length-take-le i es (omega arith)

-- so no house has the BIC of the next entry
pub still_new : (es : List HouseEntry) (i : ℕ) (hs : List House) (b : Bic) (d : HouseEntry) → bics_kept es ≡ true → i < length es → map held_house hs ≡ map given_house (take i es) → bic_text b ≡ entry_text (get_or es i d) → (n : ℕ) → key_of (map bic_of hs) n ≡ Some b → ⊥
still_new es i hs b d kept h same text n key =
    let was = given_text hs (take i es) same n b d key in
    let size : length (take i es) ≡ i = length-take-le i es (omega arith) in
    let below : n < i = omega (arith, was.0) in
    differ es kept n i d below h (ap entry_text (sym (get_or-take i es n d below)) ∙ sym was.1 ∙ text)

-- and it may be the next house
pub same_more : (es : List HouseEntry) (i : ℕ) (hs : List House) (x : House) (d : HouseEntry) → i < length es → map held_house hs ≡ map given_house (take i es) → held_house x ≡ given_house (get_or es i d) → map held_house (hs ++ x ∷ []) ≡ map given_house (take (i + 1) es)
same_more es i hs x d h same is =
    map_push held_house hs x
    ∙ ap (λ l. l ++ held_house x ∷ []) same
    ∙ ap (λ y. map given_house (take i es) ++ y ∷ []) is
    ∙ sym (map_more given_house es i d h)
