-- What the numbers of a walk read as, and the lines that are due.
-- Assumes nothing.
use Rattle.std.specs.Prelude.{◌≡◌, true, ℕ, eqb}
use Rattle.std.proofs.Common.{lit≤, sym, ◌∙◌, eq-eqb, to_z, of_z}
use Rattle.std.specs.Int.{w64}
use Rattle.plan.specs.declared.types.Scaled.{Scaled}
use Rattle.plan.specs.declared.types.Walk.{Walk}
use Rattle.plan.specs.Scaled.{draw_of}
use Rattle.loads.specs.Comes.{read_in}
use Rattle.loads.specs.Kept.{slice_in}
use Rattle.loads.specs.Sound.{SoundWalk, Runs, due_lines}
use Rattle.walks.specs.Going.{count_in, lines_in}

module _ (w : Walk) (h : SoundWalk w) where
  pub count_is : to_z w64 (of_z w64 w.count) ≡ w.count
  count_is = read_in 32 _ (lit≤ tt) (count_in w h)

  pub rows_is : to_z w64 (of_z w64 w.slice_rows) ≡ w.slice_rows
  rows_is = read_in 43 _ (lit≤ tt) (slice_in w h)

  -- the lines that `lines_due` gives
  pub due_is : {n : ℕ} → n ≡ due_lines (to_z w64 (of_z w64 w.count)) → n ≡ draw_of w
  due_is e = rw count_is at e

  -- where it gives none, the pass has no line
  pub idle : {n : ℕ} → n ≡ due_lines (to_z w64 (of_z w64 w.count)) → n ≡ 0 → eqb (draw_of w) 0 ≡ true
  idle e z = eq-eqb (draw_of w) 0 (sym (due_is e) ∙ z)

pub left_is : (z : Scaled) (w : Walk) → Runs z w → to_z w64 (of_z w64 w.frame_remain) ≡ w.frame_remain
left_is z w r = read_in 32 _ (lit≤ tt) (lines_in z w r)
