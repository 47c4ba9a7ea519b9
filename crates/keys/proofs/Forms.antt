-- What a text of the form of a BIC or a reference is: of its length, with no 0 among its bytes. Assumes nothing.
use Rattle.std.proofs.Common.{◌≡◌, ℕ, zero, suc, ◌<◌, ◌≤◌, Bool, true, false, cond, List, [], ◌∷◌, length, take, drop, Some, None, sym, refl, ap, ◌∙◌, subst, not-suc-le-zero, arith}
use Rattle.std.proofs.lemmas.Option.{cond_some, none-some}
use Rattle.std.proofs.lemmas.Bool.{false≢true, and_parts, eqb-true, leb-true}
use Rattle.std.proofs.lemmas.List.{drop-drop}
use Rattle.text.specs.Chars.{belongs, every}
use Rattle.text.specs.declared.class.Class.{Class}
use Rattle.text.specs.declared.class.Class.TheVariants.{Digit, Capital, Alphanumeric, Permitted}
use Rattle.codes.specs.Bics.{bic_formed}
use Rattle.keys.specs.Texts.{spelled, reference_form, formed_only}
use Rattle.keys.proofs.Packs.{Plain}

-- 0 is in no class of characters
some : (c : Class) (b : ℕ) → belongs c b ≡ true → 0 < b
some Digit zero h = absurd (false≢true h)
some Capital zero h = absurd (false≢true h)
some Alphanumeric zero h = absurd (false≢true h)
some Permitted zero h = absurd (false≢true h)
some c (suc b) h = omega arith

every_plain : (c : Class) (t : List ℕ) → every (belongs c) t ≡ true → Plain t
every_plain c [] h i b = absurd (not-suc-le-zero b)
every_plain c (x ∷ xs) h zero b = some c x (and_parts (belongs c x) (every (belongs c) xs) h).0
every_plain c (x ∷ xs) h (suc i) b = every_plain c xs (and_parts (belongs c x) (every (belongs c) xs) h).1 i (omega arith)

plain_join : (n : ℕ) (t : List ℕ) → Plain (take n t) → Plain (drop n t) → Plain t
plain_join zero t a b i h = b i h
plain_join (suc n) [] a b i h = absurd (not-suc-le-zero h)
plain_join (suc n) (x ∷ xs) a b zero h = a 0 (omega arith)
plain_join (suc n) (x ∷ xs) a b (suc i) h = plain_join n xs (λ j l. a (suc j) (omega arith)) b i (omega arith)

pub bic_plain : (t : List ℕ) → bic_formed t ≡ true → (length t ≡ 8) × Plain t
bic_plain t h =
    let l = and_parts _ _ h in
    let a = and_parts _ _ l.1 in
    let c = and_parts _ _ a.1 in
    let last : Plain (drop 2 (drop 4 t)) = subst Plain (sym (drop-drop 2 4 t)) (every_plain Alphanumeric (drop 6 t) c.1) in
    (eqb-true (length t) 8 l.0, plain_join 4 t (every_plain Alphanumeric (take 4 t) a.0) (plain_join 2 (drop 4 t) (every_plain Capital (take 2 (drop 4 t)) c.0) last))

pub reference_plain : (t : List ℕ) → reference_form t ≡ true → (length t ≤ 16) × Plain t
reference_plain t h =
    let l = and_parts _ _ h in
    let a = and_parts _ _ l.1 in
    (leb-true (length t) 16 a.0, every_plain Permitted t a.1)

-- what a choice tells that gave nothing: its test failed
pub cond_none : {A : Type 0} (b : Bool) (y : A) → None ≡ cond b (Some y) None → b ≡ false
cond_none true y e = absurd (none-some y e)
cond_none false y e = refl

-- a text that was read is of the form, and is what was read; one that was not is not
pub formed_some : (form : List ℕ → Bool) (t u : List ℕ) → Some u ≡ formed_only form t → (form t ≡ true) × (u ≡ t)
formed_some form t u h = let of = cond_some (form t) t u (sym h) in (of.0, sym of.1)

pub formed_none : (form : List ℕ → Bool) (t : List ℕ) → None ≡ formed_only form t → form t ≡ false
formed_none form t h = cond_none (form t) t h

-- and a text of the form is what is read of it
pub formed_read : (form : List ℕ → Bool) (t : List ℕ) (n : ℕ) → spelled n ≡ t → form t ≡ true → Some (spelled n) ≡ formed_only form t
formed_read form t n back formed = ap (λ u. Some u) back ∙ ap (λ b. cond b (Some t) None) (sym formed)
