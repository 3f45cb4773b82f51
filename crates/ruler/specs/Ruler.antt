-- A ruler's numbers are demand 3's, and what is known of every ruler. Assumes nothing.
use Rattle.std.specs.Prelude.{◌+◌, ◌*◌, ◌^◌, ◌≤◌, pos, ◌*ℤ◌, ◌≤ℤ◌}
use Rattle.signed.specs.Diff.{up}
use Rattle.measures.specs.Range.{Within}
use Rattle.plan.specs.Demand.{Drift}
use Rattle.ruler.specs.declared.types.Ruler.TheInside.{Inside}

-- demand 3's numbers
abbrev pub drift_in : Inside → Drift
drift_in r =
    record {
      h = r.h;
      image_h = r.image_h;
      source_rows = r.source_rows;
      image_rows = r.image_rows;
      frame_rows = r.frame_rows;
      first_rows = r.first_rows;
      carry = r.carry;
      slice = r.slice;
      count = pos r.count;
      lines = r.lines;
      start = r.start;
      origin = r.origin;
    }

abbrev pub ruler_in : Drift → Inside
ruler_in d =
    record {
      h = d.h;
      image_h = d.image_h;
      source_rows = d.source_rows;
      image_rows = d.image_rows;
      frame_rows = d.frame_rows;
      first_rows = d.first_rows;
      carry = d.carry;
      slice = d.slice;
      count = up d.count;
      lines = d.lines;
      start = d.start;
      origin = d.origin;
    }

-- what holds of every ruler in memory
pub record SoundRuler (r : Drift) : Type 0 where
  pub h : r.h ≤ 65535
  pub image_h : r.image_h ≤ 4 * r.source_rows + 3
  pub source_rows : 1 ≤ r.source_rows
  pub source_rows' : r.source_rows ≤ 16383
  pub image_rows : r.image_rows ≤ 512
  pub frame_rows : r.frame_rows ≤ 536870912
  pub first_rows : Within 28 r.first_rows
  pub carry : r.carry ≤ 2 ^ 23
  pub slice : Within 45 r.slice
  pub top : Within 45 (pos r.image_rows *ℤ r.slice)
  pub count : pos 0 ≤ℤ r.count
  pub count' : r.count ≤ℤ pos (2 ^ 30)
  pub lines : r.lines ≤ 1023
  pub start : r.start ≤ 2 ^ 26
  pub origin : Within 31 r.origin
