-- What demand 3 asks of the numbers of a plan, and its closed form; proofs/Demand3.antt has demand 3. D is docs/SPECIFICATION.md.
-- Assumes nothing.
use Rattle.std.specs.Prelude.{◌≡◌, ℕ, ◌+◌, ◌*◌, ◌<◌, ℤ, pos, ◌+ℤ◌, ◌-ℤ◌, ◌*ℤ◌, ◌≤ℤ◌}
use Rattle.signed.specs.Floor.{floor_div}
use Rattle.plan.specs.Request.{Request}
use Rattle.object.specs.declared.types.ObjBg.{ObjBg}
use Rattle.measures.specs.Measure.{quarters, thirty_seconds, texels, sampled_by}
use Rattle.plan.specs.declared.types.Start.{Start}
use Rattle.plan.specs.declared.types.Scaled.{Scaled}
use Rattle.plan.specs.Scaled.{clip_of, start_of, scaled_of, first_of}
use Rattle.plan.specs.Demand.{Drift}
use Rattle.drift.specs.First.{drift_at}

-- ---- the scaled plan

-- what demand 3 asks of the numbers of a plan
pub record Fit (z : Scaled) (i : Start) (image_h start e : ℕ) (origin : ℤ) : Type 0 where
  pub rows : image_h ≡ 4 * z.source_rows
  pub some : 0 < z.source_rows
  pub frame : z.frame_rows * z.scale_h.0 + e ≡ z.image_rows * 1048576
  pub frame_rest : e < z.scale_h.0
  pub below : origin ≤ℤ pos start
  pub distance : i.image_y.0 -ℤ i.origin.0 ≡ pos start -ℤ origin
  pub first : floor_div i.origin.0 32 ≡ floor_div origin 32 +ℤ pos i.carry -ℤ pos i.wrap *ℤ pos z.source_rows

-- the request's numbers, as `drift_of` has them
abbrev pub drift_from : ObjBg → Request → Drift
drift_from bg q =
    let c = clip_of bg q.scissor in
    let i = start_of bg c in
    let z = scaled_of bg q.mode q.address c i in
    drift_at z (first_of z i) (quarters bg.image_h) i.carry (texels (quarters c.height)) (thirty_seconds bg.image_y + sampled_by (quarters c.top) z.scale_h.0) bg.image_y_orig.0
