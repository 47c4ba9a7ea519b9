-- How the first frame is cut from bytes. Assumes nothing.
use Rattle.std.proofs.Common.{◌≡◌, ℕ, suc, ◌+◌, ◌≤◌, Bool, true, false, cond, ◌&&◌, eqb, List, [], ◌∷◌, ◌++◌, length, get_or, take, drop, sym, refl, ap, ◌∙◌, one-add, arith}
use Rattle.std.proofs.lemmas.List.{drop-drop, take-append-drop, append_assoc, length-take-le}
use Rattle.std.proofs.lemmas.Bool.{cond-true, cond-false, eq-eqb, and_right}
use Rattle.text.specs.Chars.{place}
use Rattle.frames.specs.Fixed.{soh, etx, crlf, begins, on_first}
use Rattle.frames.specs.Frames.{frame, frames_from, frames_in}
use Rattle.frames.proofs.Begins.{begins_front}

pub place_le : (x : ℕ) (s : List ℕ) → place x s ≤ length s
place_le x [] = omega arith
place_le x (y ∷ s) =
    let ih = place_le x s in
    elim (eqb y x) as (λ v. cond v 0 (1 + place x s) ≤ suc (length s)) [ true ↦ omega arith | false ↦ omega arith ]

none_either : (v : Bool) → ◌≡◌ {A = List (List ℕ)} [] (cond v [] [])
none_either true = refl
none_either false = refl

-- one byte on in a frame's content
pub inside_more : (b : ℕ) (u : List ℕ) → frames_from true (b ∷ u) ≡ cond (eqb b etx) (cond (begins crlf u) ([] ∷ frames_from false (drop 2 u)) []) (on_first b (frames_from true u))
inside_more b [] = none_either (eqb b etx)
inside_more b (c ∷ []) = none_either (eqb b etx) ∙ ap (λ w. cond (eqb b etx) (cond w ([] ∷ []) []) []) (sym (and_right (eqb c 13) false refl))
inside_more b (c ∷ d ∷ t) = refl

-- the frames of bytes that begin in a content, which is closed after n of them
abbrev Closed : List ℕ → ℕ → List (List ℕ)
Closed u n = cond (begins (etx ∷ crlf) (drop n u)) (take n u ∷ frames_from false (drop 3 (drop n u))) []

on_first_lem : (b : ℕ) (v : Bool) (p : List ℕ) (ps : List (List ℕ)) → on_first b (cond v (p ∷ ps) []) ≡ cond v ((b ∷ p) ∷ ps) []
on_first_lem b true p ps = refl
on_first_lem b false p ps = refl

inside_by : (b : ℕ) (u : List ℕ) (v : Bool) → eqb b etx ≡ v → frames_from true u ≡ Closed u (place etx u) → cond v (cond (begins crlf u) ([] ∷ frames_from false (drop 2 u)) []) (on_first b (frames_from true u)) ≡ Closed (b ∷ u) (cond v 0 (1 + place etx u))
inside_by b u true e ih = ap (λ w. cond (w && begins crlf u) ([] ∷ frames_from false (drop 2 u)) []) (sym e)
inside_by b u false e ih =
    ap (on_first b) ih ∙ on_first_lem b (begins (etx ∷ crlf) (drop (place etx u) u)) _ _ ∙ ap (Closed (b ∷ u)) (sym (one-add (place etx u)))

inside_cut : (u : List ℕ) → frames_from true u ≡ Closed u (place etx u)
inside_cut [] = refl
inside_cut (b ∷ u) = inside_more b u ∙ inside_by b u (eqb b etx) refl (inside_cut u)

frames_open : (b : List ℕ) → get_or b 0 0 ≡ soh → frames_in b ≡ frames_from true (drop 1 b)
frames_open [] h = refl
frames_open (x ∷ t) h = cond-true (eqb x soh) (frames_from true t) [] (eq-eqb x soh h)

opened : (b : List ℕ) → get_or b 0 0 ≡ soh → b ≡ soh ∷ drop 1 b
opened [] h = absurd (omega arith)
opened (x ∷ t) h = ap (λ y. y ∷ t) h

frames_cut : (b inner : List ℕ) (n : ℕ) → get_or b 0 0 ≡ soh → inner ≡ drop 1 b → n ≡ place etx inner → frames_in b ≡ Closed inner n
frames_cut b inner n h e f = frames_open b h ∙ ap (frames_from true) (sym e) ∙ inside_cut inner ∙ ap (Closed inner) (sym f)

-- what follows a frame whose content has n bytes
after_frame : (b inner content : List ℕ) (n : ℕ) → inner ≡ drop 1 b → n ≡ place etx inner → content ≡ take n inner → drop (length content + 4) b ≡ drop 3 (drop n inner)
after_frame b inner content n e f g =
    let l = place_le etx inner in
    let k : length content ≡ n = ap length g ∙ length-take-le n inner (omega arith) in
    let m : length content + 4 ≡ 1 + (n + 3) = omega arith in
    ap (λ j. drop j b) m ∙ sym (drop-drop (n + 3) 1 b) ∙ ap (drop (n + 3)) (sym e) ∙ sym (drop-drop 3 n inner)

pub frame_none : (b inner after : List ℕ) (n : ℕ) → get_or b 0 0 ≡ soh → inner ≡ drop 1 b → n ≡ place etx inner → after ≡ drop n inner → begins (etx ∷ crlf) after ≡ false → frames_in b ≡ []
frame_none b inner after n h e f g bad = frames_cut b inner n h e f ∙ cond-false _ _ [] (ap (begins (etx ∷ crlf)) (sym g) ∙ bad)

pub frame_some : (b inner after content : List ℕ) (n : ℕ) → get_or b 0 0 ≡ soh → inner ≡ drop 1 b → n ≡ place etx inner → after ≡ drop n inner → begins (etx ∷ crlf) after ≡ true → content ≡ take n inner → frames_in b ≡ content ∷ frames_in (drop (length content + 4) b)
frame_some b inner after content n h e f g ok k =
    let x = sym (after_frame b inner content n e f k) in
    frames_cut b inner n h e f ∙ cond-true _ _ [] (ap (begins (etx ∷ crlf)) (sym g) ∙ ok) ∙ (λ i. sym k i ∷ frames_in (x i))

pub frame_parts : (b inner after content : List ℕ) (n : ℕ) → get_or b 0 0 ≡ soh → inner ≡ drop 1 b → n ≡ place etx inner → after ≡ drop n inner → begins (etx ∷ crlf) after ≡ true → content ≡ take n inner → b ≡ frame content ++ drop (length content + 4) b
frame_parts b inner after content n h e f g ok k =
    let rest = drop 3 (drop n inner) in
    let x : drop n inner ≡ (etx ∷ crlf) ++ rest = sym g ∙ begins_front (etx ∷ crlf) after ok ∙ ap (λ u. (etx ∷ crlf) ++ drop 3 u) g in
    let y : inner ≡ (content ++ etx ∷ crlf) ++ rest = sym (take-append-drop n inner) ∙ (λ i. sym k i ++ x i) ∙ sym (append_assoc content (etx ∷ crlf) rest) in
    let z = sym (after_frame b inner content n e f k) in
    opened b h ∙ ap (λ u. soh ∷ u) (sym e ∙ y) ∙ ap (λ u. frame content ++ u) z
