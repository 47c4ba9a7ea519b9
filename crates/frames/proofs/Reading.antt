-- The count that a reader comes to. Assumes nothing.
use Rattle.std.proofs.Common.{◌≡◌, ℕ, Bool, true, false, cond, List, length, Some, None, refl, ◌∙◌}
use Rattle.std.specs.Bool.{then_some}
use Rattle.frames.specs.Frames.{frames_in, only_frames, frame_count}

some_where : (v : Bool) (n : ℕ) → then_some v n ≡ cond v (Some n) None
some_where true n = refl
some_where false n = refl

pub counted : (whole : Bool) (n : ℕ) (b : List ℕ) → whole ≡ only_frames b → n ≡ length (frames_in b) → then_some whole n ≡ frame_count b
counted whole n b e f = some_where whole n ∙ (λ i. cond (e i) (Some (f i)) None)
