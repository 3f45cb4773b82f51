-- The parts of `clip_of`: one axis of a frame, cut by two edges of the scissor. They are shut, so that a caller's goals stay short.
-- Assumes nothing.
use Rattle.std.specs.Prelude.{Bool, cond, ◌≡◌, ℕ, ◌+◌, ℤ, pos, ◌+ℤ◌, ◌-ℤ◌}
use Rattle.signed.specs.Diff.{up}
use Rattle.signed.specs.Cast.{min_z}
use Rattle.object.specs.declared.types.ObjBg.{ObjBg}
use Rattle.object.specs.declared.types.Scissor.{Scissor}
use Rattle.measures.specs.Measure.{quarters, edge, in_quarters}
use Rattle.plan.specs.Scaled.{max_of}
use Rattle.scaled.specs.declared.clip.Axis.{Axis}

-- a frame's greatest extent, and what a wider one loses
unfoldable pub greatest : (image scale : ℕ) → ℤ
greatest image scale = max_of image scale

unfoldable pub removed : (frame image scale : ℕ) → ℕ
removed frame image scale = up (pos frame -ℤ greatest image scale)

-- the width, by what it loses; the height; and the left side, which moves in a flipped frame
unfoldable pub kept : (frame loss : ℕ) → ℤ
kept frame loss = pos frame -ℤ pos loss

unfoldable pub lower : (frame image scale : ℕ) → ℤ
lower frame image scale = min_z (pos frame) (greatest image scale)

unfoldable pub moved : ℤ → Bool → ℕ → ℤ
moved x flip loss = x +ℤ pos (cond flip loss 0)

-- what the scissor cuts off at the near side and at the far one, where the rest starts, and its extent
unfoldable pub near_cut : (x : ℤ) (ul : ℕ) → ℕ
near_cut x ul = up (pos ul -ℤ x)

unfoldable pub far_cut : (x extent : ℤ) (lr : ℕ) → ℕ
far_cut x extent lr = up (extent -ℤ pos lr +ℤ x)

unfoldable pub start_at : (x : ℤ) (near : ℕ) → ℕ
start_at x near = up (x +ℤ pos near)

unfoldable pub rest_of : (extent : ℤ) (cut : ℕ) → ℕ
rest_of extent cut = up (extent -ℤ pos cut)

pub record AxisIs (x extent : ℤ) (ul lr : ℕ) (a : Axis) : Type 0 where
  pub near : a.near ≡ in_quarters (pos (near_cut x ul))
  pub far : a.far ≡ in_quarters (pos (far_cut x extent lr))
  pub start : a.start ≡ in_quarters (pos (start_at x (near_cut x ul)))
  pub rest : a.rest ≡ in_quarters (pos (rest_of extent (near_cut x ul + far_cut x extent lr)))

-- both axes of an object
abbrev pub loss_of : ObjBg → ℕ
loss_of bg = removed (quarters bg.frame_w) (quarters bg.image_w) bg.scale_w.0

abbrev pub Across : ObjBg → Bool → Scissor → Axis → Type 0
Across bg flip s = AxisIs (moved bg.frame_x.0 flip (loss_of bg)) (kept (quarters bg.frame_w) (loss_of bg)) (edge s.ulx) (edge s.lrx)

abbrev pub Down : ObjBg → Scissor → Axis → Type 0
Down bg s = AxisIs bg.frame_y.0 (lower (quarters bg.frame_h) (quarters bg.image_h) bg.scale_h.0) (edge s.uly) (edge s.lry)
