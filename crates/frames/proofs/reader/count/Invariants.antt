use Rattle.std.proofs.Common.{◌≡◌, ◌+◌, ◌≤◌, length}
use Rattle.frames.specs.Frames.{frames_in, only_frames}
use Rattle.frames.specs.Reading.{unread}
use Rattle.frames.proofs.reader.count.Given as goal

abbrev pub invariant-loop-frames : goal.invariant-loop-frames
invariant-loop-frames l =
    (l.frames + length (frames_in (unread l.reader)) ≡ length (frames_in l.body))
    × (only_frames (unread l.reader) ≡ only_frames l.body)
    × (l.frames + length (unread l.reader) ≤ length l.body)

abbrev pub decreases-loop-frames : goal.decreases-loop-frames
decreases-loop-frames l = length (unread l.reader)
