-- The walk in closed form; proofs/Walk.antt has that each pass keeps it.
-- Assumes nothing.
use Rattle.std.specs.Prelude.{◌≡◌, cond, ℕ, suc, ◌+◌, ◌*◌, ◌<◌, ◌≤◌, ℤ, pos, ◌+ℤ◌, ◌-ℤ◌, ◌*ℤ◌}
use Rattle.std.specs.Int.Signed.{le_z}
use Rattle.signed.specs.Floor.{floor_div, modulo}
use Rattle.measures.specs.Measure.{thirty_seconds}
use Rattle.measures.specs.Range.{Below}
use Rattle.plan.specs.declared.types.Entry.{Entry}
use Rattle.plan.specs.declared.types.Scaled.{Scaled}
use Rattle.plan.specs.declared.types.Source.{Source}
use Rattle.plan.specs.declared.types.Walk.{Walk}
use Rattle.plan.specs.Scaled.{left_after, lines_of, rows_of, rect_of, after_draw, draw_of, next_pass}
use Rattle.plan.specs.Demand.{Drift}

-- the rows from the image's top to strip k's first row, before the remainder
abbrev pub row_at : Drift → ℤ → ℤ
row_at d k = pos d.image_rows *ℤ k +ℤ floor_div d.origin 32 +ℤ pos d.carry +ℤ cond (le_z k d.slice) d.first_rows (pos 0)

-- what holds of a request's numbers: k0 is `slice`, l the lines from the origin to the start, rho and e what the divisions leave
pub record Fixed (d : Drift) (z : Scaled) (k0 l rho e : ℕ) : Type 0 where
  pub rows : d.image_h ≡ 4 * d.source_rows
  pub some : 0 < d.source_rows
  pub source : z.source_rows ≡ d.source_rows
  pub held : z.image_rows ≡ d.image_rows
  pub frame : z.frame_rows * d.h + e ≡ d.image_rows * 1048576
  pub frame_rest : e < d.h
  pub slice : d.slice ≡ pos k0
  pub offset : pos (32 * d.start) ≡ pos 32 *ℤ d.origin +ℤ pos (d.h * l + rho)
  pub rest : rho < d.h

-- the walk before pass k, `earlier` lines finished; c is `count`, v what the first strip skips: 1,024 × its rows + 32 × t
pub record At (d : Drift) (z : Scaled) (k0 l : ℕ) (w : Walk) (k earlier c v : ℕ) : Type 0 where
  pub late : k0 ≤ k
  pub count : w.count ≡ pos c
  pub lines : c + 1024 * (l + earlier) ≡ z.frame_rows * suc k
  pub row : modulo (pos z.source_rows -ℤ w.source.remain) z.source_rows ≡ modulo (row_at d (pos k)) d.source_rows
  pub rows : pos d.image_rows *ℤ pos (suc k) +ℤ floor_div d.origin 32 +ℤ pos d.carry ≡ row_at d (pos k) +ℤ w.slice_rows
  pub t : Below 5 w.t.0
  pub sampled : pos 1024 *ℤ row_at d (pos k) +ℤ pos (32 * thirty_seconds w.t) ≡ pos (1024 * (d.image_rows * k)) +ℤ pos 1024 *ℤ (floor_div d.origin 32 +ℤ pos d.carry) +ℤ pos v
  pub behind : d.h * (l + earlier) ≤ 1024 * (d.image_rows * k) + v + 31
  pub before : 1048576 * (d.image_rows * k) + 1024 * v ≤ 1024 * (d.h * (l + earlier)) + (1024 * d.h + d.h * k)

-- ---- a pass as one outcome, with what follows it

abbrev pub pass_left : Walk → ℤ
pass_left w = left_after w (draw_of w)

abbrev pub pass_lines : Walk → ℕ
pass_lines w = lines_of w (draw_of w)

abbrev pub pass_rows : Scaled → Walk → ℤ
pass_rows z w = rows_of z w (draw_of w)

abbrev pub pass_rect : Scaled → Walk → Entry
pass_rect z w = rect_of z w (pass_lines w)

abbrev pub drawn_next : Scaled → Walk → Source → Walk
drawn_next z w s = after_draw z w (draw_of w) (pass_lines w) s

abbrev pub idle_next : Scaled → Walk → Source → Walk
idle_next z w s = next_pass z w.frame_y w.frame_remain w.count s
