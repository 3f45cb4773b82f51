-- What the set-up of a scaled plan takes and promises: each result is its definition's, in a range.
-- Assumes nothing.
use Rattle.std.specs.Prelude.{Bool, true, false, cond, ◌≡◌, ℕ, ◌^◌, ◌≤◌, ◌<◌, ℤ, pos, neg_ℤ, ◌≤ℤ◌}
use Rattle.std.specs.Int.{w32}
use Rattle.std.proofs.Common.{SFits, to_z, of_z}
use Rattle.std.proofs.lemmas.Int.{to_z-of_z}
use Rattle.signed.specs.Diff.{up, zarith}
use Rattle.object.specs.declared.types.ObjBg.{ObjBg}
use Rattle.measures.specs.declared.types.Quarters.{Quarters}
use Rattle.object.specs.declared.types.Scissor.{Scissor}
use Rattle.measures.specs.Measure.{quarters, thirty_seconds, edge, in_image}
use Rattle.measures.specs.Range.{Below, Around}
use Rattle.checks.specs.Known.{InRange, PassedScaled}
use Rattle.plan.specs.declared.types.Clip.{Clip}
use Rattle.plan.specs.declared.types.Start.{Start}
use Rattle.plan.specs.declared.types.Scaled.{Scaled}
use Rattle.plan.specs.Scaled.{clip_of, scaled_empty, start_of, scaled_of, slices_bad}
use Rattle.plan.specs.Sound.{SoundScaled}

-- a frame position, also one that a flipped frame has moved, and an extent before the scissor cuts it
pub record Position (x : ℤ) : Type 0 where
  pub low : neg_ℤ (pos (2 ^ 15)) ≤ℤ x
  pub high : x ≤ℤ pos (2 ^ 18)

pub record Extent (z : ℤ) : Type 0 where
  pub low : neg_ℤ (pos 4) ≤ℤ z
  pub high : z ≤ℤ pos 65535

-- an object that passed the checks, whatever the scissor
pub record Usable (bg : ObjBg) : Type 0 where
  pub range : InRange bg
  pub siz : bg.image_siz ≤ 3
  pub fmt : bg.image_fmt ≤ 4
  pub image_w : 1 ≤ quarters bg.image_w
  pub image_h : 1 ≤ quarters bg.image_h
  pub scale_w : 1 ≤ bg.scale_w.0
  pub scale_h : 1 ≤ bg.scale_h.0

pub usable : {bg : ObjBg} {s : Scissor} → PassedScaled bg s → Usable bg
usable p = record {
  range = p.passed.range;
  siz = p.passed.siz;
  fmt = p.passed.fmt;
  image_w = p.passed.image_w;
  image_h = p.passed.image_h;
  scale_w = p.scale_w;
  scale_h = p.scale_h;
}

-- a clip that is not empty
pub record Filled (c : Clip) : Type 0 where
  pub left : Below 16 c.left.0
  pub top : Below 16 c.top.0
  pub right : Below 16 c.right.0
  pub x : Below 12 c.x.0
  pub y : Below 12 c.y.0
  pub width : 1 ≤ quarters c.width
  pub width' : Below 12 c.width.0
  pub height : 1 ≤ quarters c.height
  pub height' : Below 12 c.height.0

pub record ClipIs (bg : ObjBg) (s : Scissor) (c : Clip) : Type 0 where
  pub is : c ≡ clip_of bg s
  pub filled : scaled_empty c ≡ false → Filled c

-- a start in an image
pub record StartIn (bg : ObjBg) (i : Start) : Type 0 where
  pub image_x : thirty_seconds i.image_x < in_image (quarters bg.image_w)
  pub image_x' : Below 20 i.image_x.0
  pub image_y : Below 20 i.image_y.0
  pub carry : i.carry ≤ 2 ^ 23
  pub wrap : i.wrap ≤ 2 ^ 26
  pub origin : Around 33 i.origin.0

pub record StartIs (bg : ObjBg) (c : Clip) (i : Start) : Type 0 where
  pub is : i ≡ start_of bg c
  pub inside : StartIn bg i

pub record ScaledIs (bg : ObjBg) (mode address : ℕ) (c : Clip) (i : Start) (z : Scaled) : Type 0 where
  pub is : z ≡ scaled_of bg mode address c i
  pub sound : slices_bad z ≡ false → SoundScaled z

-- what the fields' bits read as
pub reads_edge : {z : ℤ} → Below 10 z → to_z w32 (of_z w32 z) ≡ z
reads_edge {z} r = let b : SFits w32 z = omega zarith in to_z-of_z w32 z b

-- edges and extents as numbers
pub edge_le : {z : ℤ} → Below 10 z → edge z ≤ 4092
edge_le {z} r = omega zarith

pub extent_le : {z : ℤ} → Below 16 z → up z ≤ 65535
extent_le {z} r = omega zarith

-- a choice of extents
pub chosen_in : (t : Bool) {a b : Quarters} → Below 16 a.0 → Below 16 b.0 → Below 16 (cond t a b).0
chosen_in true h k = h
chosen_in false h k = k
