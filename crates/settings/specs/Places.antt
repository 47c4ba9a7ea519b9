-- The houses as they are held, and where one stands. Assumes nothing.
use Rattle.std.specs.Prelude.{ℕ, suc, Bool, false, cond, List, [], ◌∷◌, map, Some, None, Option, slice_index_or}
use Rattle.std.specs.Option.{option_map}
use Rattle.index.specs.Order.{key_of}
use Rattle.keys.specs.declared.bic.Bic.{Bic}
use Rattle.keys.specs.Held.{bic_text, same_bic}
use Rattle.settings.specs.declared.house.House.{House}
use Rattle.settings.specs.declared.opening.HouseEntry.{HouseEntry}
use Rattle.settings.specs.Rules.{entry_text}

-- what a house is found by
abbrev pub bic_of : House → Option Bic
bic_of h = Some h.bic

-- the BIC's characters and whether the house is suspended, of a house that is held and of an entry that was given
abbrev pub held_house : House → List ℕ × Bool
held_house h = (bic_text h.bic, h.suspended)

abbrev pub given_house : HouseEntry → List ℕ × Bool
given_house e = (entry_text e, e.suspended)

-- the first place whose house has the BIC
abbrev pub place_of : Bic → List House → Option ℕ
place_of b [] = None
place_of b (h ∷ hs) = cond (same_bic h.bic b) (Some 0) (option_map (λ n. suc n) (place_of b hs))

-- the BIC of the house at a place, and whether it is suspended; past the last there is none, and nothing is suspended
abbrev pub bic_at : List House → ℕ → Option Bic
bic_at hs n = key_of (map bic_of hs) n

abbrev pub suspended_at : List House → ℕ → Bool
suspended_at hs n = slice_index_or (map (λ h. h.suspended) hs) n false
