use Rattle.std.proofs.Common.{◌≡◌, ◌+◌, ◌≤◌, length, Some}
use Rattle.frames.specs.Frames.{frames_in, only_frames}
use Rattle.frames.specs.Reading.{unread}
use Rattle.files.specs.Bodies.{messages_in}
use Rattle.files.proofs.Taking.{all_taken}
use Rattle.files.proofs.tally.tally_of.Given as goal

abbrev pub invariant-loop-content : goal.invariant-loop-content
invariant-loop-content l =
    (l.messages + length (frames_in (unread l.reader)) ≡ length (messages_in l.body))
    × (only_frames (unread l.reader) ≡ only_frames l.body)
    × (l.messages + length (unread l.reader) ≤ length l.body)
    × (all_taken l.left (frames_in (unread l.reader)) ≡ all_taken (Some l.total) (messages_in l.body))

abbrev pub decreases-loop-content : goal.decreases-loop-content
decreases-loop-content l = length (unread l.reader)
