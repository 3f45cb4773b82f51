-- The numbers of a copy plan's frame are those that the engine asks for, and the column that the planner counts from the right end is the engine's.
-- Assumes nothing.
use Rattle.std.specs.Prelude.{◌≡◌, ◌⊎◌, refl, Bool, true, false, cond, Ok, Err, ◌&&◌, List, ℕ, ◌+◌, ◌%◌, ◌<◌, ◌≤◌, ltb, eqb, pos, ◌-ℤ◌}
use Rattle.std.proofs.Common.{true≢false, inl, inr, sym, ap, ◌∙◌, arith, lt-ltb, le-ltb, subst}
use Rattle.signed.specs.Diff.{zdiff, zarith}
use Rattle.signed.specs.Floor.{modulo}
use Rattle.measures.specs.Measure.{quarters, texels}
use Rattle.object.specs.declared.types.ObjBg.{ObjBg}
use Rattle.object.specs.declared.types.Scissor.{Scissor}
use Rattle.object.specs.declared.types.Verdict.{Verdict}
use Rattle.object.specs.declared.types.Verdict.TheVariants as verdict
use Rattle.object.specs.declared.types.Background.TheVariants as background
use Rattle.object.specs.Layout.{decode}
use Rattle.checks.specs.Check.{Checked, checked_of}
use Rattle.plan.specs.declared.types.Copy.{Copy}
use Rattle.plan.specs.Copy.{column, strip_row_of, copy_of}
use Rattle.strips.specs.Frame.{axis_of}
use Rattle.cells.specs.Course.{ByChecks}
use Rattle.cells.proofs.Course.{Kind, copy_kind}
use Rattle.sample.specs.declared.types.Sample.{Sample}
use Rattle.sample.specs.declared.types.Sample.TheVariants.{Texel, Outside, Refused}
use Rattle.sample.specs.Engine.{frame_columns, frame_lines, plain_column, flipped_column, plain_row, texel_of, sample_in, unless_refused, sample_of}
use Rattle.sample.specs.Cell.{cell_in}

-- ---- in the frame's numbers

pub cell_texel : (c : Copy) (i j : ℕ) {a b : ℕ} → i < c.width → j < c.height → a ≡ modulo (column c i) c.image_width → b ≡ strip_row_of c j → Texel a b ≡ cell_in c i j
unfolding cell_in
cell_texel c i j h k e f = rw (lt-ltb i c.width h, lt-ltb j c.height k, e, f)

pub cell_outside : (c : Copy) (i j : ℕ) → c.width ≤ i ⊎ c.height ≤ j → cell_in c i j ≡ Outside
unfolding cell_in
cell_outside c i j (inl h) = rw (le-ltb i c.width h) refl
cell_outside c i j (inr h) = by (ltb i c.width)
  where
    by : (t : Bool) → cond (t && ltb j c.height) (Texel (modulo (column c i) c.image_width) (strip_row_of c j)) Outside ≡ Outside
    by true = rw (le-ltb j c.height h) refl
    by false = refl

-- ---- they are the engine's

module _ (bg : ObjBg) (s : Scissor) (address : ℕ) where
  abbrev frame : Copy
  frame = copy_of bg s address

  columns_are : frame.width ≡ frame_columns bg s
  unfolding frame_columns copy_of axis_of
  columns_are = omega arith

  lines_are : frame.height ≡ frame_lines bg s
  unfolding frame_lines copy_of axis_of
  lines_are = omega arith

  plain_is : (i : ℕ) → frame.source_x + frame.x_skip + i ≡ plain_column bg s i
  unfolding plain_column copy_of axis_of
  plain_is i = omega arith

  -- the planner takes one, the skipped cells and the cell's column away at once
  flipped_is : (i : ℕ) → pos (frame.source_x + frame.frame_cells) -ℤ pos (1 + frame.x_skip + i) ≡ flipped_column bg s i
  unfolding flipped_column copy_of axis_of
  flipped_is i = simp zdiff (omega zarith)

  row_is : (j : ℕ) → frame.source_y + j ≡ plain_row bg s j
  unfolding plain_row copy_of axis_of
  row_is j = omega arith

  cell_is : (i j : ℕ) → bg.image_flip ≤ 1 → cell_in frame i j ≡ sample_in bg s i j
  unfolding cell_in sample_in copy_of
  cell_is i j h =
      let m : bg.image_flip % 2 ≡ bg.image_flip = omega arith in
      λ k.
      cond (ltb i (columns_are k) && ltb j (lines_are k))
      (Texel (modulo (cond (eqb (m k) 1) (flipped_is i k) (pos (plain_is i k))) (texels (quarters bg.image_w))) (row_is j k % texels (quarters bg.image_h))) Outside

-- ---- by what the checks answer

kind_at : (p : ℕ) (bs : List ℕ) (s : Scissor) (r : Checked) → checked_of p bs 10 s ≡ r → Kind p bs r
kind_at p bs s r e = subst (Kind p bs) e (copy_kind p bs s)

-- the object of a copy that is not refused is the decoded one
checked_copy : (p : ℕ) (bs : List ℕ) (s : Scissor) (bg : ObjBg) → checked_of p bs 10 s ≡ Ok (background.Copy bg) → bg ≡ decode p true bs
checked_copy p bs s bg e = kind_at p bs s (Ok (background.Copy bg)) e

pub checked_scaled : (p : ℕ) (bs : List ℕ) (s : Scissor) (bg : ObjBg) → checked_of p bs 10 s ≡ Ok (background.Scaled bg) → ⊥
checked_scaled p bs s bg e = kind_at p bs s (Ok (background.Scaled bg)) e

module _ (p : ℕ) (bs : List ℕ) (s : Scissor) (i j : ℕ) where
  pub sample_refused : (v : Verdict) → checked_of p bs 10 s ≡ Err v → Refused v ≡ sample_of p bs s i j
  unfolding sample_of
  sample_refused v e = sym (ap (λ (r : Checked). unless_refused r (sample_in (decode p true bs) s i j)) e)

  pub sample_copy : (bg : ObjBg) (address : ℕ) → checked_of p bs 10 s ≡ Ok (background.Copy bg) → bg.image_flip ≤ 1 → cell_in (copy_of bg s address) i j ≡ sample_of p bs s i j
  unfolding sample_of
  sample_copy bg address e f =
      cell_is bg s address i j f
      ∙ ap (λ (o : ObjBg). sample_in o s i j) (checked_copy p bs s bg e)
      ∙ sym (ap (λ (r : Checked). unless_refused r (sample_in (decode p true bs) s i j)) e)

-- ---- the refusals

verdict_in : Sample → Verdict
verdict_in (Texel column row) = verdict.Finished
verdict_in Outside = verdict.Finished
verdict_in (Refused v) = v

is_refused : Sample → Bool
is_refused (Texel column row) = false
is_refused Outside = false
is_refused (Refused v) = true

never_refused : (bg : ObjBg) (s : Scissor) (i j : ℕ) → is_refused (sample_in bg s i j) ≡ false
unfolding sample_in is_refused
never_refused bg s i j = by (ltb i (frame_columns bg s) && ltb j (frame_lines bg s))
  where
    by : (t : Bool) → is_refused (cond t (texel_of bg s i j) Outside) ≡ false
    by true = refl
    by false = refl

-- 2 to 5, and never 1
pub refusals : (p : ℕ) (bs : List ℕ) (s : Scissor) (i j : ℕ) (v : Verdict) → sample_of p bs s i j ≡ Refused v → ByChecks v
unfolding sample_of is_refused verdict_in
refusals p bs s i j v e = by (checked_of p bs 10 s) (copy_kind p bs s) e
  where
    shown : Sample
    shown = sample_in (decode p true bs) s i j

    by : (r : Checked) → Kind p bs r → unless_refused r shown ≡ Refused v → ByChecks v
    by (Err w) k f = subst ByChecks (ap verdict_in f) k
    by (Ok b) k f = absurd (true≢false (sym (ap is_refused f) ∙ never_refused (decode p true bs) s i j))
