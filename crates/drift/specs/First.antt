-- The first strip in closed form, for a start at or below the origin; proofs/First.antt has that it is the plan's.
-- Assumes nothing.
use Rattle.std.specs.Prelude.{◌≡◌, ℕ, suc, ◌+◌, ◌-◌, ◌*◌, ◌/◌, ◌%◌, ◌≤◌, ℤ, pos, ◌+ℤ◌, ◌-ℤ◌, ◌*ℤ◌}
use Rattle.signed.specs.Floor.{floor_div, modulo}
use Rattle.signed.specs.Cast.{clear_low}
use Rattle.measures.specs.Measure.{in_thirty_seconds}
use Rattle.plan.specs.declared.types.Start.{Start}
use Rattle.plan.specs.declared.types.Scaled.{Scaled}
use Rattle.plan.specs.declared.types.First.{First}
use Rattle.plan.specs.Demand.{Drift}

-- k0 is `slice`, l the lines from the origin to the start, hid those of them in the first strip
pub record FirstIs (z : Scaled) (i : Start) (f : First) (k0 l hid : ℕ) : Type 0 where
  pub slice : f.slice ≡ pos k0
  pub hidden : f.image_hidden ≡ pos (hid * z.scale_h.0)
  pub enough : 1024 * l ≤ z.frame_rows * suc k0
  pub count : f.count ≡ pos (z.frame_rows * suc k0 - 1024 * l)
  pub t : f.t ≡ in_thirty_seconds (pos (hid * z.scale_h.0 / 32 % 32))
  pub slice_rows : f.slice_rows ≡ pos z.image_rows -ℤ pos (hid * z.scale_h.0 / 1024)
  pub image_row : f.image_row ≡ modulo (pos z.image_rows *ℤ pos k0 +ℤ floor_div i.origin.0 32 +ℤ pos (hid * z.scale_h.0 / 1024)) z.source_rows
  pub split : hid + z.frame_rows * k0 / 1024 ≡ l

-- the first strip's numbers as functions of the distance from the origin
abbrev pub slice_at : (h f : ℕ) → ℤ → ℤ
slice_at h f u = floor_div (floor_div (u *ℤ pos 32) h *ℤ pos 1024) f

abbrev pub hidden_at : (h f : ℕ) → ℤ → ℤ
hidden_at h f u = floor_div (u *ℤ pos 32) h *ℤ pos 1024 -ℤ clear_low (pos f *ℤ slice_at h f u) 1024

abbrev pub count_at : (h f : ℕ) → ℤ → ℤ
count_at h f u = pos (modulo (pos f *ℤ slice_at h f u) 1024) +ℤ pos f -ℤ hidden_at h f u

-- demand 3's numbers, from those of the plan
abbrev pub drift_at : Scaled → First → (image_h carry lines start : ℕ) → (origin : ℤ) → Drift
drift_at z f image_h carry lines start origin =
    record {
      h = z.scale_h.0;
      image_h = image_h;
      source_rows = z.source_rows;
      image_rows = z.image_rows;
      frame_rows = z.frame_rows;
      first_rows = floor_div f.image_hidden 1024;
      carry = carry;
      slice = f.slice;
      count = f.count;
      lines = lines;
      start = start;
      origin = origin;
    }
