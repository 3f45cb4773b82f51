-- The range of a clip that is not empty.
-- Assumes nothing.
use Rattle.std.specs.Prelude.{Bool, true, false, cond, ◌≡◌, refl, ℕ, ◌+◌, ◌-◌, ◌%◌, ◌^◌, ◌≤◌, eqb, ℤ, pos, ◌≤ℤ◌}
use Rattle.std.specs.Int.Signed.{le_z}
use Rattle.signed.specs.Diff.{zdiff, zparts, zarith}
use Rattle.signed.specs.Cast.{min_z}
use Rattle.object.specs.declared.types.ObjBg.{ObjBg}
use Rattle.object.specs.declared.types.Scissor.{Scissor}
use Rattle.measures.specs.Measure.{quarters, edge}
use Rattle.measures.specs.Range.{Below}
use Rattle.checks.specs.Known.{PassedScaled}
use Rattle.plan.specs.declared.types.Clip.{Clip}
use Rattle.plan.specs.Scaled.{clip_of, scaled_empty}
use Rattle.scaled.specs.Clip.{greatest, removed, kept, lower, moved, near_cut, far_cut, start_at, rest_of, loss_of}
use Rattle.signed.specs.Bound.{or_false, some}
use Rattle.scaled.specs.Range.{Filled, edge_le, extent_le}

-- an extent that the scissor does not cut away lies between its edges
pub record AxisIn (x extent : ℤ) (ul lr : ℕ) : Type 0 where
  pub near : near_cut x ul ≤ 65535
  pub far : far_cut x extent lr ≤ 65535
  pub start : start_at x (near_cut x ul) ≤ 4095
  pub rest : rest_of extent (near_cut x ul + far_cut x extent lr) ≤ 4095

pub axis_in : (x extent : ℤ) (ul lr : ℕ) → ul ≤ 4092 → lr ≤ 4092 → extent ≤ℤ pos 65535 → 1 ≤ rest_of extent (near_cut x ul + far_cut x extent lr) → AxisIn x extent ul lr
unfolding near_cut far_cut start_at rest_of
axis_in x extent ul lr u l e r =
    let k = simp zparts at (simp zdiff at r) in
    record {
      near = simp zdiff (simp zparts (omega zarith));
      far = simp zdiff (simp zparts (omega zarith));
      start = simp zdiff (simp zparts (omega zarith));
      rest = simp zdiff (simp zparts (omega zarith));
    }

pub not_empty : (c : Clip) → scaled_empty c ≡ false → (1 ≤ quarters c.width) × (1 ≤ quarters c.height)
not_empty c e = let o = or_false (eqb (quarters c.width) 0) (eqb (quarters c.height) 0) e in (some (quarters c.width) o.0, some (quarters c.height) o.1)

min_at : (a b : ℤ) (t : Bool) → le_z a b ≡ t → cond t a b ≤ℤ a
min_at a b true e = omega zarith
min_at a b false e = omega zarith

pub min_le : (a b : ℤ) → min_z a b ≤ℤ a
min_le a b = min_at a b (le_z a b) refl

pub kept_le : (frame loss : ℕ) → frame ≤ 65535 → kept frame loss ≤ℤ pos 65535
unfolding kept
kept_le frame loss h = simp zdiff (omega zarith)

pub lower_le : (frame image scale : ℕ) → frame ≤ 65535 → lower frame image scale ≤ℤ pos 65535
unfolding lower
lower_le frame image scale h = let m = min_le (pos frame) (greatest image scale) in omega zarith

natural : {k : ℕ} (n : ℕ) → n ≤ 2 ^ k - 1 → Below k (pos n)
natural n h = record { low = omega zarith; high = omega zarith }

module _ (bg : ObjBg) (s : Scissor) (p : PassedScaled bg s) (e : scaled_empty (clip_of bg s) ≡ false) where
  across_in : AxisIn (moved bg.frame_x.0 (eqb (bg.image_flip % 2) 1) (loss_of bg)) (kept (quarters bg.frame_w) (loss_of bg)) (edge s.ulx) (edge s.lrx)
  unfolding clip_of greatest removed kept moved near_cut far_cut start_at rest_of
  across_in = axis_in _ _ _ _ (edge_le p.passed.edges.ulx) (edge_le p.passed.edges.lrx) (kept_le (quarters bg.frame_w) (loss_of bg) (extent_le p.passed.range.frame_w)) (not_empty (clip_of bg s) e).0

  down_in : AxisIn bg.frame_y.0 (lower (quarters bg.frame_h) (quarters bg.image_h) bg.scale_h.0) (edge s.uly) (edge s.lry)
  unfolding clip_of greatest lower near_cut far_cut start_at rest_of
  down_in = axis_in _ _ _ _ (edge_le p.passed.edges.uly) (edge_le p.passed.edges.lry) (lower_le (quarters bg.frame_h) (quarters bg.image_h) bg.scale_h.0 (extent_le p.passed.range.frame_h)) (not_empty (clip_of bg s) e).1

  pub clip_filled : Filled (clip_of bg s)
  unfolding clip_of greatest removed kept lower moved near_cut far_cut start_at rest_of
  clip_filled = record {
    left = natural _ across_in.near;
    top = natural _ down_in.near;
    right = natural _ across_in.far;
    x = natural _ across_in.start;
    y = natural _ down_in.start;
    width = (not_empty (clip_of bg s) e).0;
    width' = natural _ across_in.rest;
    height = (not_empty (clip_of bg s) e).1;
    height' = natural _ down_in.rest;
  }
