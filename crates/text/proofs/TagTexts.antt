-- A tag that is read from a row, written again. Assumes nothing.
use Rattle.std.proofs.Common.{◌≡◌, ℕ, ◌+◌, ◌-◌, ◌*◌, ◌/◌, ◌%◌, Bool, true, false, cond, ◌&&◌, ◌||◌, eqb, List, [], ◌∷◌, ◌++◌, get_or, drop, Some, None, sym, refl, ap, ◌∙◌, arith}
use Rattle.std.proofs.lemmas.Bool.{and_parts, eqb-true, false≢true}
use Rattle.std.proofs.lemmas.Option.{cond_some}
use Rattle.std.proofs.lemmas.Bool.Decides.{nat_tests}
use Rattle.text.specs.declared.tag.Tag.{Tag}
use Rattle.text.specs.Chars.{digit, capital}
use Rattle.text.specs.Tags.{is_tag, tag_in, tag_size, size_by, tag_text, ending, TagLaw}

-- the number that two digits write gives back the digits
tens : (b c : ℕ) → digit b ≡ true → digit c ≡ true → 48 + (10 * (b - 48) + (c - 48)) / 10 ≡ b
tens b c h k = grind (arith, nat_tests)

ones : (b c : ℕ) → digit b ≡ true → digit c ≡ true → 48 + (10 * (b - 48) + (c - 48)) % 10 ≡ c
ones b c h k = grind (arith, nat_tests)

row_by : (a b c d n m : ℕ) (t : List ℕ) (v : Bool) → eqb d 58 ≡ v → eqb a 58 ≡ true → n ≡ b → m ≡ c → (v || (capital d && eqb (get_or t 0 0) 58)) ≡ true
    → (58 ∷ n ∷ m ∷ ending (cond v None (Some d))) ++ drop (size_by (cond v None (Some d))) (a ∷ b ∷ c ∷ d ∷ t) ≡ a ∷ b ∷ c ∷ d ∷ t
row_by a b c d n m t true e f x y h =
    let p = sym (eqb-true a 58 f) in
    let q = sym (eqb-true d 58 e) in
    λ i. p i ∷ x i ∷ y i ∷ q i ∷ t
row_by a b c d n m [] false e f x y h = absurd (false≢true (and_parts (capital d) false h).1)
row_by a b c d n m (g ∷ t) false e f x y h =
    let p = sym (eqb-true a 58 f) in
    let q = sym (eqb-true g 58 (and_parts (capital d) (eqb g 58) h).1) in
    λ i. p i ∷ x i ∷ y i ∷ d ∷ q i ∷ t

-- a row that begins with a tag is the tag as it is written, and what follows it
pub tag_row : (r : List ℕ) → is_tag r ≡ true → tag_text (tag_in r) ++ drop (tag_size (tag_in r)) r ≡ r
tag_row [] h = absurd (false≢true h)
tag_row (a ∷ []) h = absurd (false≢true (and_parts (eqb a 58) false h).1)
tag_row (a ∷ b ∷ []) h = absurd (false≢true (and_parts (digit b) false (and_parts (eqb a 58) (digit b && false) h).1).1)
tag_row (a ∷ b ∷ c ∷ []) h =
    absurd (false≢true (and_parts (digit c) false (and_parts (digit b) (digit c && false) (and_parts (eqb a 58) (digit b && (digit c && false)) h).1).1).1)
tag_row (a ∷ b ∷ c ∷ d ∷ t) h =
    let last = eqb d 58 || (capital d && eqb (get_or t 0 0) 58) in
    let p = and_parts (eqb a 58) (digit b && (digit c && last)) h in
    let q = and_parts (digit b) (digit c && last) p.1 in
    let s = and_parts (digit c) last q.1 in
    row_by a b c d _ _ t (eqb d 58) refl p.0 (tens b c q.0 s.0) (ones b c q.0 s.0) s.1

pub tag_law : TagLaw
tag_law r t e =
    let p = cond_some {A = Tag} (is_tag r) (tag_in r) t e in
    sym (tag_row r p.0) ∙ ap (λ u. tag_text u ++ drop (tag_size u) r) p.1
