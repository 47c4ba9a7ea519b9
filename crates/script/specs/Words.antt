-- A line's words: what stands between the separators.
use Rattle.std.specs.Prelude.{◌≡◌, ℕ, ◌<◌, Bool, true, cond, not, List, [], ◌∷◌, ◌++◌, length, Some, None, Option, ◌==◌}
use Rattle.std.specs.List.{flat_map}
use Rattle.text.specs.Chars.{every}

-- b as the first byte of the first word
abbrev pub on_first : ℕ → List (List ℕ) → List (List ℕ)
on_first b [] = (b ∷ []) ∷ []
on_first b (w ∷ ws) = (b ∷ w) ∷ ws

-- the words of a text: each separator ends one and begins another
abbrev pub words_of : ℕ → List ℕ → List (List ℕ)
words_of sep [] = [] ∷ []
words_of sep (b ∷ t) = cond (b == sep) ([] ∷ words_of sep t) (on_first b (words_of sep t))

-- the words of the text behind the last separator, or none where no separator was left
abbrev pub words_left : ℕ → Option (List ℕ) → List (List ℕ)
words_left sep None = []
words_left sep (Some t) = words_of sep t

-- words put together, with a separator between each two
abbrev pub together : ℕ → List (List ℕ) → List ℕ
together sep [] = []
together sep (w ∷ ws) = w ++ flat_map (λ v. sep ∷ v) ws

-- no byte of the word is the separator
abbrev pub lacks : ℕ → List ℕ → Bool
lacks sep w = every (λ b. not (b == sep)) w

-- no word holds the separator
abbrev pub AllLack : ℕ → List (List ℕ) → Type 0
AllLack sep [] = Unit {0}
AllLack sep (w ∷ ws) = (lacks sep w ≡ true) × AllLack sep ws

-- words that give the text when they are put together, none of them with a separator in it; at least one
pub record Splits (sep : ℕ) (t : List ℕ) (ws : List (List ℕ)) : Type 0 where
  pub some : 0 < length ws
  pub clean : AllLack sep ws
  pub whole : together sep ws ≡ t

-- a text's words split it, and nothing else does
abbrev pub WordsLaw : Type 0
WordsLaw = (sep : ℕ) (t : List ℕ) → Splits sep t (words_of sep t) × ((ws : List (List ℕ)) → Splits sep t ws → ws ≡ words_of sep t)
