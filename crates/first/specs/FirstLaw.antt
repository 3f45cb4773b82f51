-- Where the first strip starts, and its numbers from there; proofs/FirstLaw.antt has their laws.
-- Assumes nothing.
use Rattle.std.specs.Prelude.{◌≡◌, ℕ, ◌+◌, ◌<◌, ℤ, pos, ◌-ℤ◌, ◌*ℤ◌}
use Rattle.signed.specs.Diff.{up, dn}
use Rattle.signed.specs.Floor.{modulo}
use Rattle.measures.specs.Measure.{whole, row_part}
use Rattle.plan.specs.declared.types.Scaled.{Scaled}
use Rattle.plan.specs.declared.types.Start.{Start}
use Rattle.plan.specs.declared.types.First.{First}
use Rattle.first.specs.First.{slice_start_of, count_of, image_row_of}

-- a strip of f lines starts at s, and e, a whole line, is a remainder below f after it
pub record Starts (e : ℤ) (f : ℕ) (s : ℤ) : Type 0 where
  pub sum : up s + modulo e f + dn e ≡ up e + dn s
  pub below : modulo e f < f

-- `first_of` from the strip's number k, its start s and what is hidden of it
abbrev pub first_from : Scaled → Start → (k s hidden : ℤ) → First
first_from z i k s hidden =
    let image_hidden = whole hidden *ℤ pos z.scale_h.0 in
    record {
      slice = k;
      image_hidden = image_hidden;
      count = count_of s z.frame_rows hidden;
      t = row_part image_hidden;
      slice_rows = pos z.image_rows -ℤ whole image_hidden;
      image_row = image_row_of (slice_start_of z.image_rows k) i.origin.0 image_hidden z.source_rows;
    }
