-- The clipped height of a frame; proofs/Lines.antt has that a finished plan's lines add up to it (D 8.23). D is docs/SPECIFICATION.md.
-- Assumes nothing.
use Rattle.std.specs.Prelude.{false, cond, ℕ}
use Rattle.measures.specs.Measure.{quarters}
use Rattle.object.specs.Layout.{decode}
use Rattle.plan.specs.Request.{Request}
use Rattle.plan.specs.Scaled.{clip_of, scaled_empty}

-- the frame's height after the scissor, in quarters; an empty frame has none, whichever side is empty
abbrev pub clipped_height : Request → ℕ
clipped_height q = let c = clip_of (decode 4 false q.bytes) q.scissor in cond (scaled_empty c) 0 (quarters c.height)
