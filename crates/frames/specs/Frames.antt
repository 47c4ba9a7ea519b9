-- The frames of a body.
use Rattle.std.specs.Prelude.{◌≡◌, ℕ, Bool, true, false, cond, not, ◌&&◌, List, [], ◌∷◌, ◌++◌, length, Some, None, Decides, Option, ◌==◌}
use Rattle.std.specs.List.{flat_map}
use Rattle.std.specs.Str.{bytes_eq}
use Rattle.text.specs.Chars.{every}
use Rattle.frames.specs.Fixed.{soh, etx, crlf, begins, on_first}

-- a content as it is written: framed
abbrev pub frame : List ℕ → List ℕ
frame c = soh ∷ (c ++ etx ∷ crlf)

-- frames written one after another
abbrev pub written : List (List ℕ) → List ℕ
written fs = flat_map frame fs

-- the contents of the frames that bytes begin with, up to where no whole frame stands; at true the bytes begin in a frame's content
abbrev pub frames_from : Bool → List ℕ → List (List ℕ)
frames_from false [] = []
frames_from false (b ∷ t) = cond (b == soh) (frames_from true t) []
frames_from true [] = []
frames_from true (b ∷ []) = []
frames_from true (b ∷ c ∷ []) = []
frames_from true (b ∷ c ∷ d ∷ t) = cond (b == etx) (cond (begins crlf (c ∷ d ∷ t)) ([] ∷ frames_from false t) []) (on_first b (frames_from true (c ∷ d ∷ t)))

-- the contents of the frames that bytes begin with
abbrev pub frames_in : List ℕ → List (List ℕ)
frames_in b = frames_from false b

-- no bytes stand outside the frames
abbrev pub only_frames : List ℕ → Bool
only_frames b = bytes_eq (written (frames_in b)) b

-- how many frames a body is, or nothing where bytes stand outside frames
abbrev pub frame_count : List ℕ → Option ℕ
frame_count b = cond (only_frames b) (Some (length (frames_in b))) None

-- no byte closes a content before its end
abbrev pub unclosed : List ℕ → Bool
unclosed c = every (λ b. not (b == etx)) c

abbrev pub all_unclosed : List (List ℕ) → Bool
all_unclosed [] = true
all_unclosed (c ∷ cs) = unclosed c && all_unclosed cs

-- a body is these contents, framed one after another
abbrev pub IsBody : List ℕ → List (List ℕ) → Type 0
IsBody b cs = (b ≡ written cs) × (all_unclosed cs ≡ true)

-- bytes are only frames just where they are some contents framed one after another, and they are so in one way only
abbrev pub FramesLaw : Type 0
FramesLaw = (b : List ℕ) → Decides (only_frames b) ((cs : List (List ℕ)) × IsBody b cs) × ((cs : List (List ℕ)) → IsBody b cs → frames_in b ≡ cs)
