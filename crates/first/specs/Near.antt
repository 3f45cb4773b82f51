-- What the first strip takes and promises.
-- Assumes nothing.
use Rattle.std.specs.Prelude.{◌≡◌, ℤ}
use Rattle.std.specs.Int.{w64}
use Rattle.std.proofs.Common.{SFits, to_z, of_z}
use Rattle.std.proofs.lemmas.Int.{to_z-of_z}
use Rattle.signed.specs.Diff.{zarith}
use Rattle.measures.specs.Range.{Below, Around}
use Rattle.plan.specs.declared.types.Start.{Start}
use Rattle.plan.specs.declared.types.Scaled.{Scaled}
use Rattle.plan.specs.declared.types.First.{First}
use Rattle.plan.specs.Scaled.{first_of}
use Rattle.plan.specs.Sound.{SoundFirst}

-- what the first strip needs of the start
pub record Near (i : Start) : Type 0 where
  pub image_y : Below 20 i.image_y.0
  pub origin : Around 33 i.origin.0

pub record FirstIs (z : Scaled) (i : Start) (f : First) : Type 0 where
  pub is : f ≡ first_of z i
  pub sound : SoundFirst z f

-- what the number's bits read as
pub reads49 : {z : ℤ} → Around 49 z → to_z w64 (of_z w64 z) ≡ z
reads49 {z} r = let b : SFits w64 z = omega zarith in to_z-of_z w64 z b
