-- A text is cut into its words one by one, and the words are all that splits it.
use Rattle.std.proofs.Common.{◌≡◌, ℕ, ◌+◌, ◌<◌, ◌≤◌, Bool, true, false, cond, not, eqb, List, [], ◌∷◌, ◌++◌, length, take, drop, Some, None, Option, Bor, sym, refl, ap, ◌∙◌, one-add, arith}
use Rattle.std.specs.List.{flat_map}
use Rattle.std.specs.Option.{option_copied}
use Rattle.std.specs.Slice.{IsGetRangeResult}
use Rattle.std.proofs.lemmas.Bool.Decides.{nat_tests}
use Rattle.std.proofs.lemmas.Grind.{common_steps}
use Rattle.std.proofs.lemmas.Bool.{and_parts, and_from, eq-eqb, eqb-true, not-true, cond-true, cond-false}
use Rattle.text.specs.Chars.{place}
use Rattle.script.specs.Words.{on_first, words_of, words_left, together, lacks, AllLack, WordsLaw}

-- the text behind a separator, where one stands first
abbrev pub behind : List ℕ → Option (List ℕ)
behind [] = None
behind (b ∷ t) = Some t

cut_by : (sep b : ℕ) (t : List ℕ) → words_of sep t ≡ take (place sep t) t ∷ words_left sep (behind (drop (place sep t) t))
    → (v : Bool) → cond v ([] ∷ words_of sep t) (on_first b (words_of sep t)) ≡ take (cond v 0 (1 + place sep t)) (b ∷ t) ∷ words_left sep (behind (drop (cond v 0 (1 + place sep t)) (b ∷ t)))
cut_by sep b t ih true = refl
cut_by sep b t ih false =
    ap (on_first b) ih ∙ ap (λ n. take n (b ∷ t) ∷ words_left sep (behind (drop n (b ∷ t)))) (sym (one-add (place sep t)))

-- the first word ends where the separator first stands
words_cut : (sep : ℕ) (t : List ℕ) → words_of sep t ≡ take (place sep t) t ∷ words_left sep (behind (drop (place sep t) t))
words_cut sep [] = refl
words_cut sep (b ∷ t) = cut_by sep b t (words_cut sep t) (eqb b sep)

-- the separator stands within the text, or at its end
pub place_within : (sep : ℕ) (t : List ℕ) → place sep t ≤ length t
place_within sep [] = omega arith
place_within sep (b ∷ t) = let ih = place_within sep t in grind (arith, nat_tests)

behind_got : (t : List ℕ) (r : Option (Bor (List ℕ))) → IsGetRangeResult t 1 (length t) r → option_copied r ≡ behind t
behind_got [] None h = refl
behind_got [] (Some x) h = absurd (omega (arith, h.0))
behind_got (b ∷ t) None h = grind (arith, common_steps)
behind_got (b ∷ t) (Some x) h = grind (arith, common_steps)

pub first_cut : (sep n : ℕ) (t word rest : List ℕ) (left : Option (Bor (List ℕ))) → n ≡ place sep t → word ≡ take n t → rest ≡ drop n t → IsGetRangeResult rest 1 (length rest) left
    → words_of sep t ≡ word ∷ words_left sep (option_copied left)
first_cut sep n t word rest left e f g h =
    let w : word ≡ take (place sep t) t = f ∙ ap (λ m. take m t) e in
    let r : rest ≡ drop (place sep t) t = g ∙ ap (λ m. drop m t) e in
    words_cut sep t ∙ sym (λ i. w i ∷ words_left sep ((behind_got rest left h ∙ ap behind r) i))

clean_first : (sep b : ℕ) (ws : List (List ℕ)) → not (eqb b sep) ≡ true → AllLack sep ws → AllLack sep (on_first b ws)
clean_first sep b [] h a = (and_from _ _ h refl, tt)
clean_first sep b (w ∷ ws) h a = (and_from _ _ h a.0, a.1)

clean_by : (sep b : ℕ) (t : List ℕ) → AllLack sep (words_of sep t) → (v : Bool) → eqb b sep ≡ v → AllLack sep (cond v ([] ∷ words_of sep t) (on_first b (words_of sep t)))
clean_by sep b t ih true e = (refl, ih)
clean_by sep b t ih false e = clean_first sep b (words_of sep t) (ap not e) ih

words_clean : (sep : ℕ) (t : List ℕ) → AllLack sep (words_of sep t)
words_clean sep [] = (refl, tt)
words_clean sep (b ∷ t) = clean_by sep b t (words_clean sep t) (eqb b sep) refl

words_some : (sep : ℕ) (t : List ℕ) → 0 < length (words_of sep t)
words_some sep t = let l = ap length (words_cut sep t) in omega arith

joined_together : (sep : ℕ) (ws : List (List ℕ)) → 0 < length ws → flat_map (λ v. sep ∷ v) ws ≡ sep ∷ together sep ws
joined_together sep [] h = absurd (omega arith)
joined_together sep (w ∷ ws) h = refl

first_together : (sep b : ℕ) (ws : List (List ℕ)) → together sep (on_first b ws) ≡ b ∷ together sep ws
first_together sep b [] = refl
first_together sep b (w ∷ ws) = refl

whole_by : (sep b : ℕ) (t : List ℕ) → together sep (words_of sep t) ≡ t → (v : Bool) → eqb b sep ≡ v → together sep (cond v ([] ∷ words_of sep t) (on_first b (words_of sep t))) ≡ b ∷ t
whole_by sep b t ih true e =
    let x : b ≡ sep = eqb-true b sep e in
    joined_together sep (words_of sep t) (words_some sep t) ∙ (λ i. sym x i ∷ ih i)
whole_by sep b t ih false e = first_together sep b (words_of sep t) ∙ ap (λ u. b ∷ u) ih

words_whole : (sep : ℕ) (t : List ℕ) → together sep (words_of sep t) ≡ t
words_whole sep [] = refl
words_whole sep (b ∷ t) = whole_by sep b t (words_whole sep t) (eqb b sep) refl

put_word : (sep : ℕ) (w r : List ℕ) (ws : List (List ℕ)) → lacks sep w ≡ true → words_of sep r ≡ [] ∷ ws → words_of sep (w ++ r) ≡ w ∷ ws
put_word sep [] r ws h e = e
put_word sep (b ∷ w) r ws h e =
    let p = and_parts (not (eqb b sep)) (lacks sep w) h in
    cond-false (eqb b sep) _ _ (not-true (eqb b sep) p.0) ∙ ap (on_first b) (put_word sep w r ws p.1 e)

put_words : (sep : ℕ) (ws : List (List ℕ)) → AllLack sep ws → words_of sep (flat_map (λ v. sep ∷ v) ws) ≡ [] ∷ ws
put_words sep [] a = refl
put_words sep (w ∷ ws) a =
    cond-true (eqb sep sep) _ _ (eq-eqb sep sep refl) ∙ ap (λ l. [] ∷ l) (put_word sep w (flat_map (λ v. sep ∷ v) ws) ws a.0 (put_words sep ws a.1))

only_words : (sep : ℕ) (ws : List (List ℕ)) → 0 < length ws → AllLack sep ws → ws ≡ words_of sep (together sep ws)
only_words sep [] h a = absurd (omega arith)
only_words sep (w ∷ ws) h a = sym (put_word sep w (flat_map (λ v. sep ∷ v) ws) ws a.0 (put_words sep ws a.1))

pub words_law : WordsLaw
words_law sep t = (
  record { some = words_some sep t; clean = words_clean sep t; whole = words_whole sep t },
  λ ws h. only_words sep ws h.some h.clean ∙ ap (words_of sep) h.whole,
)
