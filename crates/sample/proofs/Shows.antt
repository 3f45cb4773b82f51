-- Of every finished copy plan of a request, for pointers of p bytes: each cell's rectangle and load show what the engine answers. By the strip that covers the cell, whose numbers are those of the frame, as the engine's are.
-- Assumes nothing.
use Rattle.std.specs.Prelude.{◌≡◌, ◌⊎◌, refl, true, [], ◌∷◌, ℕ, ◌+◌, ◌-◌, ◌≤◌, ◌<◌}
use Rattle.std.proofs.Common.{inl, inr, sym, ap, subst, ◌∙◌, arith}
use Rattle.signed.specs.Floor.{modulo}
use Rattle.object.specs.declared.types.Verdict.TheVariants as verdict
use Rattle.object.specs.Layout.{Bytes}
use Rattle.checks.proofs.Passed.{passed_copy}
use Rattle.plan.specs.Request.{Request}
use Rattle.plan.specs.declared.types.Copy.{Copy}
use Rattle.plan.specs.Copy.{column, copy_empty, strip_row_of, strip_height_of}
use Rattle.plan.specs.Whole.{plan_with}
use Rattle.plan.specs.Sound.{SoundCopy}
use Rattle.copy.specs.Walk.{place_at, image_entry}
use Rattle.cells.specs.Places.{places_of}
use Rattle.cells.specs.Given.{entries_of}
use Rattle.cells.specs.Shown.{looks_at}
use Rattle.cells.specs.Course.{object_in, frame_of}
use Rattle.cells.proofs.Course.{passed}
use Rattle.cells.proofs.Once.{empty_axis}
use Rattle.cells.proofs.Finished.{of_finished}
use Rattle.cells.proofs.Shown.{look_of, shown_by, shown_beyond}
use Rattle.cells.proofs.Texels.{seen}
use Rattle.sample.specs.declared.types.Sample.{Sample}
use Rattle.sample.specs.Engine.{sample_of}
use Rattle.sample.specs.Cell.{cell_in}
use Rattle.sample.specs.Shows.{CellShown, CellBeyond, Shows}
use Rattle.sample.proofs.Cell.{cell_texel, cell_outside, sample_copy}

-- ---- by the frame's own numbers

module _ (c : Copy) (s : SoundCopy c) where
  cell_shown : (i j : ℕ) → i < c.width → j < c.height → CellShown c (image_entry c ∷ entries_of (places_of c)) i j (cell_in c i j)
  cell_shown i j a b =
      let w = shown_by c s i j a b in
      let v = seen c w.x w.y (i - w.x) (j - w.y) s w.within w.above (let l = w.left in let r = w.right in omega arith) (let t = w.top in let u = w.bottom in omega arith) in
      let look = look_of (place_at c w.x w.y (strip_row_of c w.y) (strip_height_of c w.y)) (i - w.x) (j - w.y) in
      let k : w.x + (i - w.x) ≡ i = let l = w.left in omega arith in
      let m : w.y + (j - w.y) ≡ j = let t = w.top in omega arith in
      record {
        look = look;
        is = w.is;
        loaded = v.loaded;
        agrees = λ n. sym (cell_texel c i j a b (v.column n ∙ ap (λ (x : ℕ). modulo (column c x) c.image_width) k) (v.row ∙ ap (strip_row_of c) m));
      }

  cell_beyond : (i j : ℕ) → c.width ≤ i ⊎ c.height ≤ j → CellBeyond c (image_entry c ∷ entries_of (places_of c)) i j (cell_in c i j)
  cell_beyond i j h = record { is = shown_beyond c s i j h; agrees = cell_outside c i j h }

  frame_shows : Shows c (cell_in c) (image_entry c ∷ entries_of (places_of c))
  frame_shows = record { cells = cell_shown; beyond = cell_beyond }

-- an empty frame has no cells
empty_shows : (c : Copy) → copy_empty c ≡ true → Shows c (cell_in c) []
unfolding looks_at
empty_shows c e = record { cells = λ i j a b. absurd (none i j a b (empty_axis c e)); beyond = λ i j h. record { is = refl; agrees = cell_outside c i j h } }
  where
    none : (i j : ℕ) → i < c.width → j < c.height → c.width ≡ 0 ⊎ c.height ≡ 0 → ⊥
    none i j a b (inl z) = omega arith
    none i j a b (inr z) = omega arith

-- ---- of a request

-- the engine's answer is that of the frame's numbers
engine_is : (p : ℕ) (q : Request) → q.opcode ≡ 10 → Bytes q.bytes → (plan_with p q).verdict ≡ verdict.Finished → cell_in (frame_of p q) ≡ sample_of p q.bytes q.scissor
engine_is p q o b f =
    let e = passed p q o f in
    λ k i j. sample_copy p q.bytes q.scissor i j (object_in p q) q.address e (passed_copy p q.bytes 10 q.scissor (object_in p q) b e).flip k

pub shows_at : (p : ℕ) (q : Request) → q.opcode ≡ 10 → Bytes q.bytes → (plan_with p q).verdict ≡ verdict.Finished → Shows (frame_of p q) (sample_of p q.bytes q.scissor) (plan_with p q).entries
shows_at p q o b f =
    subst (λ (engine : (i j : ℕ) → Sample). Shows (frame_of p q) engine (plan_with p q).entries) (engine_is p q o b f)
    (of_finished p q o b f (Shows (frame_of p q) (cell_in (frame_of p q))) (empty_shows (frame_of p q)) (λ s h. frame_shows (frame_of p q) s))
