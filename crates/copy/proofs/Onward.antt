-- What holds where the next strip is found, whether the image is due or a rectangle.
-- Assumes nothing.
use Rattle.std.proofs.Common.{◌+◌, ◌≤◌, arith}
use Rattle.plan.specs.Sound.{SoundCopy}
use Rattle.copy.specs.declared.types.Due.{Due}
use Rattle.copy.specs.declared.types.Due.TheVariants as due
use Rattle.copy.specs.declared.types.Stage.TheVariants as stage
use Rattle.copy.specs.declared.types.Place.{Place}
use Rattle.copy.specs.Walk.{SoundAt}

-- no strip reaches past the frame
pub record Moves (p : Place) : Type 0 where
  pub copy : SoundCopy p.copy
  pub right : p.x + p.strip.strip_width ≤ p.copy.width
  pub below : p.y + p.strip_height ≤ p.copy.height

pub moves : (d : Due) (p : Place) → SoundAt (stage.Strip d) p → Moves p
moves due.Image p h = rw h.is (record { copy = h.copy; right = omega arith; below = omega arith })
moves due.Rect p h = record { copy = h.copy; right = h.strip.width'; below = h.rows.height' }
