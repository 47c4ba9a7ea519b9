-- What stands at a place in bytes, and what follows it. Assumes nothing.
use Rattle.std.proofs.Common.{◌≡◌, ℕ, ◌+◌, true, List, ◌++◌, length, take, drop, sym, ap, ◌∙◌}
use Rattle.std.proofs.lemmas.List.{drop-drop, drop_at, take-append-drop}
use Rattle.frames.specs.Fixed.{begins}
use Rattle.frames.proofs.Begins.{begins_front}

-- past what begins at i
pub past : (b p q : List ℕ) (i n : ℕ) → drop i b ≡ p ++ q → length p ≡ n → drop (i + n) b ≡ q
past b p q i n e h = sym (drop-drop n i b) ∙ ap (drop n) e ∙ drop_at p q n h

-- n bytes, and what follows them
pub cut_at : (c : List ℕ) (i n : ℕ) → drop i c ≡ take n (drop i c) ++ drop (i + n) c
cut_at c i n = sym (take-append-drop n (drop i c)) ∙ ap (λ u. take n (drop i c) ++ u) (drop-drop n i c)

-- fixed bytes, and what follows them
pub fixed_at : (c p : List ℕ) (i : ℕ) → begins p (drop i c) ≡ true → drop i c ≡ p ++ drop (i + length p) c
fixed_at c p i h = begins_front p (drop i c) h ∙ ap (λ u. p ++ u) (drop-drop (length p) i c)
