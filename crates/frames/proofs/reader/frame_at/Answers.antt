use Rattle.std.proofs.Common.{sym, ap, ◌∙◌, arith}
use Rattle.std.proofs.lemmas.List.{length-drop}
use Rattle.frames.specs.Frames.{frames_in}
use Rattle.frames.proofs.Bodies.{step_at, only_more, frame_size}
use Rattle.frames.proofs.Cuts.{frame_none, frame_some, frame_parts}
use Rattle.frames.proofs.reader.frame_at.Goals as goal

pub returns-then-not-begins-clause-frames : goal.returns-then-not-begins-clause-frames
returns-then-not-begins-clause-frames c =
    let opens = sym c.byte.ensures ∙ c.if-byte-ne-SOH.false in
    ap frames_in (sym c.skip-rest.ensures) ∙ frame_none c.skip-rest.result.now _ _ _ opens c.skip-inner.ensures c.find-size.ensures c.skip.ensures (sym c.if-not-begins.ensures)

pub returns : goal.returns
returns c =
    let opens = sym c.byte.ensures ∙ c.if-byte-ne-SOH.false in
    let closes = sym c.if-not-begins.ensures in
    let some = frame_some c.skip-rest.result.now _ _ _ _ opens c.skip-inner.ensures c.find-size.ensures c.skip.ensures closes c.front.ensures in
    let parts = frame_parts c.skip-rest.result.now _ _ _ _ opens c.skip-inner.ensures c.find-size.ensures c.skip.ensures closes c.front.ensures in
    let s = step_at c.args.body.now _ _ c.args.at c.skip-rest.ensures some parts in
    let n = frame_size _ _ _ s.1 in
    let m = length-drop c.args.at c.args.body.now in
    record { frames = s.0; parts = s.1; outside = only_more _ _ _ s.0 s.1; shorter = omega arith; within = omega arith }
