-- What a reader has yet to read, and how it reads on.
use Rattle.std.specs.Prelude.{◌≡◌, ◌<◌, ℕ, List, ◌++◌, length, drop, Option, MatchOption, ◌==◌, ⊤}
use Rattle.std.specs.Borrow.{Bor}
use Rattle.std.specs.Iterator.{YieldsFirstBy}
use Rattle.frames.specs.Frames.{frame, frames_in, only_frames}
use Rattle.frames.specs.declared.reader.Reader.{Reader}

-- the body from the reader's place on
abbrev pub unread : Reader → List ℕ
unread r = drop r.at r.body.now

-- the contents of the frames that are still to come
abbrev pub frames_left : Reader → List (List ℕ)
frames_left r = frames_in (unread r)

-- one call of `next`: it gives the content of the frame that stands at the place and moves past that frame, or stays where none stands there
pub record GivesFrame (r : Reader) (o : Option (Bor (List ℕ))) (s : Reader) : Type 0 where
  pub frames : YieldsFirstBy (λ c. c.now) frames_left r o s
  pub parts : MatchOption o (s ≡ r) (λ c. unread r ≡ frame c.now ++ unread s)
  pub outside : MatchOption o (only_frames (unread r) ≡ (length (unread r) == 0)) (λ c. only_frames (unread r) ≡ only_frames (unread s))
  pub shorter : MatchOption o ⊤ (λ c. length (unread s) < length (unread r))
