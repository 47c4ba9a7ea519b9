-- A body and its frames written one after another. Assumes nothing.
use Rattle.std.proofs.Common.{◌≡◌, ℕ, ◌+◌, Bool, true, false, cond, not, ◌&&◌, eqb, List, [], ◌∷◌, ◌++◌, length, drop, sym, refl, ap, ◌∙◌, arith}
use Rattle.std.specs.Str.{bytes_eq}
use Rattle.std.proofs.lemmas.Slice.Eq.{bytes_eq-Decides}
use Rattle.std.proofs.lemmas.List.{length-append, drop-drop}
use Rattle.std.proofs.lemmas.Bool.{cond-false, and_parts, and_from, eq-eqb, not-true, not_from_false}
use Rattle.frames.specs.Fixed.{soh, etx, crlf, begins, on_first}
use Rattle.frames.specs.Frames.{frame, written, frames_from, frames_in, only_frames, unclosed, all_unclosed, IsBody, FramesLaw}
use Rattle.frames.proofs.Cuts.{inside_more}

unclosed_more : (b : ℕ) (cs : List (List ℕ)) → eqb b etx ≡ false → all_unclosed cs ≡ true → all_unclosed (on_first b cs) ≡ true
unclosed_more b [] e h = refl
unclosed_more b (c ∷ cs) e h =
    let p = and_parts (unclosed c) (all_unclosed cs) h in
    and_from (unclosed (b ∷ c)) (all_unclosed cs) (and_from (not (eqb b etx)) (unclosed c) (not_from_false (eqb b etx) e) p.0) p.1

if_closed : (v : Bool) (cs : List (List ℕ)) → all_unclosed cs ≡ true → all_unclosed (cond v ([] ∷ cs) []) ≡ true
if_closed true cs h = h
if_closed false cs h = refl

if_opened : (v : Bool) (cs : List (List ℕ)) → all_unclosed cs ≡ true → all_unclosed (cond v cs []) ≡ true
if_opened true cs h = h
if_opened false cs h = refl

by_closing : (b : ℕ) (here more : List (List ℕ)) (v : Bool) → eqb b etx ≡ v → all_unclosed here ≡ true → all_unclosed more ≡ true → all_unclosed (cond v here (on_first b more)) ≡ true
by_closing b here more true e h k = h
by_closing b here more false e h k = unclosed_more b more e k

frames_unclosed : (s : Bool) (b : List ℕ) → all_unclosed (frames_from s b) ≡ true
frames_unclosed false [] = refl
frames_unclosed false (b ∷ t) = if_opened (eqb b soh) (frames_from true t) (frames_unclosed true t)
frames_unclosed true [] = refl
frames_unclosed true (b ∷ []) = refl
frames_unclosed true (b ∷ c ∷ []) = refl
frames_unclosed true (b ∷ c ∷ d ∷ t) =
    by_closing b _ (frames_from true (c ∷ d ∷ t)) (eqb b etx) refl (if_closed (begins crlf (c ∷ d ∷ t)) (frames_from false t) (frames_unclosed false t)) (frames_unclosed true (c ∷ d ∷ t))

content_read : (c rest : List ℕ) → unclosed c ≡ true → frames_from true ((c ++ etx ∷ crlf) ++ rest) ≡ c ∷ frames_in rest
content_read [] rest h = refl
content_read (x ∷ c) rest h =
    let p = and_parts (not (eqb x etx)) (unclosed c) h in
    inside_more x ((c ++ etx ∷ crlf) ++ rest) ∙ cond-false (eqb x etx) _ _ (not-true (eqb x etx) p.0) ∙ ap (on_first x) (content_read c rest p.1)

written_read : (cs : List (List ℕ)) → all_unclosed cs ≡ true → frames_in (written cs) ≡ cs
written_read [] h = refl
written_read (c ∷ cs) h =
    let p = and_parts (unclosed c) (all_unclosed cs) h in
    content_read c (written cs) p.0 ∙ ap (λ l. c ∷ l) (written_read cs p.1)

only_way : (b : List ℕ) (cs : List (List ℕ)) → IsBody b cs → frames_in b ≡ cs
only_way b cs h = ap frames_in h.0 ∙ written_read cs h.1

some_way : (b : List ℕ) → only_frames b ≡ true → (cs : List (List ℕ)) × IsBody b cs
some_way b h = (frames_in b, (sym ((bytes_eq-Decides (written (frames_in b)) b).0 h), frames_unclosed false b))

is_only : (b : List ℕ) → (cs : List (List ℕ)) × IsBody b cs → only_frames b ≡ true
is_only b h = (bytes_eq-Decides (written (frames_in b)) b).1 (ap written (only_way b h.0 h.1) ∙ sym h.1.0)

pub frames_law : FramesLaw
frames_law b = ((some_way b, is_only b), only_way b)

same_front : (p x y : List ℕ) → bytes_eq (p ++ x) (p ++ y) ≡ bytes_eq x y
same_front [] x y = refl
same_front (b ∷ p) x y = ap (λ v. v && bytes_eq (p ++ x) (p ++ y)) (eq-eqb b b refl) ∙ same_front p x y

-- a reader's step, from what it had to what it has left
pub only_more : (b c left : List ℕ) → frames_in b ≡ c ∷ frames_in left → b ≡ frame c ++ left → only_frames b ≡ only_frames left
only_more b c left e f = (λ i. bytes_eq (written (e i)) (f i)) ∙ same_front (frame c) (written (frames_in left)) left

pub frame_size : (b c left : List ℕ) → b ≡ frame c ++ left → length b ≡ length c + 4 + length left
frame_size b c left e = ap length e ∙ simp (length-append) (omega arith)

-- the same from a place in a body on
pub step_at : (body rest c : List ℕ) (at : ℕ) → rest ≡ drop at body → frames_in rest ≡ c ∷ frames_in (drop (length c + 4) rest) → rest ≡ frame c ++ drop (length c + 4) rest → (frames_in (drop at body) ≡ c ∷ frames_in (drop (at + (length c + 4)) body)) × (drop at body ≡ frame c ++ drop (at + (length c + 4)) body)
step_at body rest c at e f g =
    let x : drop (length c + 4) rest ≡ drop (at + (length c + 4)) body = ap (drop (length c + 4)) e ∙ drop-drop (length c + 4) at body in
    (ap frames_in (sym e) ∙ f ∙ ap (λ u. c ∷ frames_in u) x, sym e ∙ g ∙ ap (λ u. frame c ++ u) x)
