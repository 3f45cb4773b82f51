-- What is known of an object that was decoded, and of a request that passed the checks.
-- Assumes nothing.
use Rattle.std.specs.Prelude.{Ok, Err, List, ◌≡◌, ℕ, ◌≤◌}
use Rattle.object.specs.declared.types.ObjBg.{ObjBg}
use Rattle.object.specs.declared.types.Scissor.{Scissor}
use Rattle.object.specs.declared.types.Background.TheVariants as background
use Rattle.measures.specs.Measure.{quarters}
use Rattle.measures.specs.Range.{Below, Within}
use Rattle.checks.specs.Check.{Checked, checked_of}

-- the ranges of the fields that a plan computes with
pub record InRange (bg : ObjBg) : Type 0 where
  pub image_x : Below 16 bg.image_x.0
  pub image_w : Below 16 bg.image_w.0
  pub frame_x : Within 15 bg.frame_x.0
  pub frame_w : Below 16 bg.frame_w.0
  pub image_y : Below 16 bg.image_y.0
  pub image_h : Below 16 bg.image_h.0
  pub frame_y : Within 15 bg.frame_y.0
  pub frame_h : Below 16 bg.frame_h.0
  pub scale_w : bg.scale_w.0 ≤ 65535
  pub scale_h : bg.scale_h.0 ≤ 65535
  pub image_y_orig : Within 31 bg.image_y_orig.0

-- the scissor's edges, after check 3
pub record EdgesIn (s : Scissor) : Type 0 where
  pub ulx : Below 10 s.ulx
  pub uly : Below 10 s.uly
  pub lrx : Below 10 s.lrx
  pub lry : Below 10 s.lry

-- what checks 1 to 4 leave
pub record Passed (bg : ObjBg) (s : Scissor) : Type 0 where
  pub range : InRange bg
  pub edges : EdgesIn s
  pub siz : bg.image_siz ≤ 3
  pub fmt : bg.image_fmt ≤ 4
  pub image_w : 1 ≤ quarters bg.image_w
  pub image_h : 1 ≤ quarters bg.image_h
  pub frame_w : 1 ≤ quarters bg.frame_w
  pub frame_h : 1 ≤ quarters bg.frame_h

-- and check 5
pub record PassedCopy (bg : ObjBg) (s : Scissor) : Type 0 where
  pub passed : Passed bg s
  pub tmem_h : 4 ≤ bg.tmem_h
  pub columns : 4 ≤ quarters bg.image_w
  pub rows : 4 ≤ quarters bg.image_h
  pub flip : bg.image_flip ≤ 1

-- a scaled object's scales are at least 1
pub record PassedScaled (bg : ObjBg) (s : Scissor) : Type 0 where
  pub passed : Passed bg s
  pub scale_w : 1 ≤ bg.scale_w.0
  pub scale_h : 1 ≤ bg.scale_h.0

-- by what the checks gave
abbrev pub KnownOf : Scissor → Checked → Type 0
KnownOf s (Ok (background.Copy bg)) = PassedCopy bg s
KnownOf s (Ok (background.Scaled bg)) = PassedScaled bg s
KnownOf s (Err v) = Unit {0}

-- pointers are of 4 bytes
pub record CheckedIs (bs : List ℕ) (opcode : ℕ) (s : Scissor) (r : Checked) : Type 0 where
  pub is : r ≡ checked_of 4 bs opcode s
  pub known : KnownOf s r
