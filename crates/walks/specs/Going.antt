-- The passes from a walk with lines left: one without a line is passed over, one that draws has its load, its rectangle and the passes after it to come.
-- Assumes nothing.
use Rattle.std.specs.Prelude.{◌≡◌, refl, Result, Ok, Err, Bool, true, false, cond, [], ℕ, ◌-◌, ◌*◌, ◌^◌, ◌≤◌, ◌<◌, eqb, ℤ, pos, negsuc, neg_ℤ, ◌+ℤ◌, ◌-ℤ◌, ◌*ℤ◌, ◌≤ℤ◌}
use Rattle.std.proofs.Math.Path.{sym}
use Rattle.std.proofs.Common.{ap, ◌∙◌, arith, mul-le-mul, ne_eqb, le-ltb, eqb-true}
use Rattle.std.specs.Int.Signed.{lt_z, le_z}
use Rattle.signed.specs.Diff.{up, dn, zdiff, zparts, zarith}
use Rattle.signed.specs.Floor.{floor_div}
use Rattle.signed.specs.Cast.{min_z}
use Rattle.object.specs.declared.types.Verdict.{Verdict}
use Rattle.object.specs.declared.types.Verdict.TheVariants as verdict
use Rattle.measures.specs.Measure.{whole}
use Rattle.measures.specs.Range.{Within}
use Rattle.plan.specs.declared.types.Scaled.{Scaled}
use Rattle.plan.specs.declared.types.Source.{Source}
use Rattle.plan.specs.declared.types.Walk.{Walk}
use Rattle.plan.specs.Out.{◌>>=◌, yield, refuse, plan_out}
use Rattle.plan.specs.Next.{ended}
use Rattle.plan.specs.Sound.{SoundScaled}
use Rattle.plan.specs.Scaled.{draw_of, left_after, lines_of, rows_of, next_pass, advance, load_1cyc}
use Rattle.loads.specs.declared.types.Place.{Place}
use Rattle.loads.specs.declared.types.Piece.{Piece}
use Rattle.loads.specs.declared.types.Piece.TheVariants as piece
use Rattle.loads.specs.Coming.{passes_of, piece_out, drawn}
use Rattle.walks.specs.Rounds.{idle_round, draw_round}
use Rattle.loads.specs.Loads.{after_yield, after_refuse}
use Rattle.loads.specs.Comes.{within}
use Rattle.loads.specs.Kept.{idle_kept, not_over}
use Rattle.loads.specs.Sound.{SoundWalk, SoundPass, Runs, Begins, due_lines, cut_lines, cut_rows}

pub pos_up : (v : ℤ) → pos 0 ≤ℤ v → v ≡ pos (up v)
pos_up (pos n) h = refl
pos_up (negsuc n) h = absurd (omega zarith)

pub due_low : (v : ℤ) → v ≤ℤ pos (2 ^ 31) → due_lines v ≤ 2 ^ 21
due_low (pos n) h = omega zarith
due_low (negsuc n) h = omega arith

pub count_in : (w : Walk) → SoundWalk w → Within 32 w.count
count_in w h = let a = h.count in let b = h.count' in record { low = omega zarith; high = omega zarith }

module _ (z : Scaled) (w : Walk) (r : Runs z w) where
  pub lines_in : Within 32 w.frame_remain
  lines_in = let a = r.left in let b = r.walk.lines in within 32 w.frame_remain (omega zarith) (omega zarith)

  left_pos : w.frame_remain ≡ pos (up w.frame_remain)
  left_pos = let a = r.left in pos_up w.frame_remain (omega zarith)

  some_left : 1 ≤ up w.frame_remain
  some_left = let a = r.left in omega zarith

  count_pos : w.count ≡ pos (up w.count)
  count_pos = pos_up w.count r.walk.count

  -- a pass without a line
  module _ (t : eqb (draw_of w) 0 ≡ true) where
    pub idle_on : (s : Source) → yield s ≡ advance z w.source w.slice_rows → plan_out (passes_of z (next_pass z w.frame_y w.frame_remain w.count s)) ≡ plan_out (passes_of z w)
    idle_on s e =
        sym (ap plan_out (idle_round z w (up w.frame_remain) (up w.count) r.scaled.frame_rows some_left left_pos count_pos t
        ∙ after_yield (advance z w.source w.slice_rows) s _ e))

    pub idle_refused : refuse verdict.Address ≡ advance z w.source w.slice_rows → ended [] verdict.Address ≡ plan_out (passes_of z w)
    idle_refused e = sym (ap plan_out (idle_round z w (up w.frame_remain) (up w.count) r.scaled.frame_rows some_left left_pos count_pos t ∙ after_refuse (advance z w.source w.slice_rows) verdict.Address _ e))

  -- a pass that draws
  pub draws_on : 1 ≤ draw_of w → plan_out (load_1cyc z w.source (rows_of z w (draw_of w)) >>= (λ s. drawn z w (lines_of w (draw_of w)) s)) ≡ plan_out (passes_of z w)
  unfolding drawn
  draws_on d = sym (ap plan_out (draw_round z w (up w.frame_remain) (up w.count) r.scaled.frame_rows some_left left_pos count_pos (ne_eqb (draw_of w) 0 (λ e. omega arith))))

-- the rows of a pass, cut or not
least_low : (a b : ℤ) (n : ℕ) → neg_ℤ (pos n) ≤ℤ a → neg_ℤ (pos n) ≤ℤ b → neg_ℤ (pos n) ≤ℤ min_z a b
least_low a b n f g = by (le_z a b)
  where
    by : (t : Bool) → neg_ℤ (pos n) ≤ℤ cond t a b
    by true = f
    by false = g

least_high : (a b : ℤ) (n : ℕ) → b ≤ℤ pos n → min_z a b ≤ℤ pos n
least_high a b n g = by (le_z a b) refl
  where
    by : (t : Bool) → le_z a b ≡ t → cond t a b ≤ℤ pos n
    by true e = omega zarith
    by false e = g

-- an end that is at most 2^21 lines over takes at most 2^27 rows and one more away
over_low : (left : ℤ) (h : ℕ) → neg_ℤ (pos (2 ^ 21)) ≤ℤ left → h ≤ 65535 → neg_ℤ (pos (2 ^ 27)) ≤ℤ floor_div (left *ℤ pos h) 1024
over_low left h f g = floor_low (left *ℤ pos h) (product left h f g)
  where
    floor_low : (v : ℤ) → dn v ≤ 2 ^ 21 * 65535 → neg_ℤ (pos (2 ^ 27)) ≤ℤ floor_div v 1024
    floor_low (pos n) u = omega zarith
    floor_low (negsuc n) u = omega zarith

    product : (a : ℤ) (h : ℕ) → neg_ℤ (pos (2 ^ 21)) ≤ℤ a → h ≤ 65535 → dn (a *ℤ pos h) ≤ 2 ^ 21 * 65535
    product a h f g =
        let d : dn a ≤ 2 ^ 21 = omega zarith in
        let u : dn a * h ≤ 2 ^ 21 * 65535 = mul-le-mul d g in
        simp zdiff (simp zparts (omega zarith))

cut_low : (z : Scaled) (rows left : ℤ) → SoundScaled z → neg_ℤ (pos (2 ^ 27)) ≤ℤ rows → neg_ℤ (pos (2 ^ 21)) ≤ℤ left → neg_ℤ (pos (2 ^ 28)) ≤ℤ cut_rows z rows left
cut_low z rows left zs f g = by (lt_z left (pos 0))
  where
    sums : (a b : ℤ) → neg_ℤ (pos (2 ^ 27)) ≤ℤ a → neg_ℤ (pos (2 ^ 27)) ≤ℤ b → neg_ℤ (pos (2 ^ 28)) ≤ℤ (a +ℤ b +ℤ pos 1)
    sums a b p q = simp zdiff (omega zarith)

    by : (t : Bool) → neg_ℤ (pos (2 ^ 28)) ≤ℤ cond t (min_z (rows +ℤ whole (left *ℤ pos z.scale_h.0) +ℤ pos 1) (pos z.image_rows)) rows
    by true = least_low (rows +ℤ whole (left *ℤ pos z.scale_h.0) +ℤ pos 1) (pos z.image_rows) (2 ^ 28) (sums rows (whole (left *ℤ pos z.scale_h.0)) f (over_low left z.scale_h.0 g zs.scale_h')) (omega zarith)
    by false = omega zarith

cut_high : (z : Scaled) (rows left : ℤ) → SoundScaled z → rows ≤ℤ pos 512 → cut_rows z rows left ≤ℤ pos 512
cut_high z rows left zs f = by (lt_z left (pos 0))
  where
    by : (t : Bool) → cond t (min_z (rows +ℤ whole (left *ℤ pos z.scale_h.0) +ℤ pos 1) (pos z.image_rows)) rows ≤ℤ pos 512
    by true = least_high (rows +ℤ whole (left *ℤ pos z.scale_h.0) +ℤ pos 1) (pos z.image_rows) 512 (omega (zarith, zs.image_rows'))
    by false = f

-- the place before a pass's load
pub pass_sound : (z : Scaled) (w : Walk) (p : Place) → Runs z w → 1 ≤ draw_of w → p.scaled ≡ z → p.walk ≡ w → p.rows ≡ rows_of z w (draw_of w) → p.lines ≡ lines_of w (draw_of w) → SoundPass p
pass_sound z w p r d ez ew er el =
    let left_low : neg_ℤ (pos (2 ^ 21)) ≤ℤ left_after w (draw_of w) = low w.frame_remain (draw_of w) r.left (due_low w.count r.walk.count') in
    record {
      scaled = rw ez r.scaled;
      walk = rw ew r.walk;
      draws = rw ew d;
      lines = rw (ew, el);
      left = rw ew (let a = r.left in omega zarith);
      rows = rw er (cut_low z w.slice_rows (left_after w (draw_of w)) r.scaled r.walk.slice_rows left_low);
      rows' = rw er (cut_high z w.slice_rows (left_after w (draw_of w)) r.scaled r.walk.slice_rows');
      whole = rw ew (λ m. er ∙ (rw (not_over (left_after w (draw_of w)) m)));
    }
  where
    low : (f : ℤ) (d : ℕ) → pos 1 ≤ℤ f → d ≤ 2 ^ 21 → neg_ℤ (pos (2 ^ 21)) ≤ℤ (f -ℤ pos d)
    low f d a b = simp zdiff (omega zarith)

-- a pass that draws, with nothing of its load given
pub draw_begins : (z : Scaled) (w : Walk) (p : Place) → Runs z w → 1 ≤ draw_of w → p.scaled ≡ z → p.walk ≡ w → p.rows ≡ rows_of z w (draw_of w) → p.lines ≡ lines_of w (draw_of w)
    → Begins (plan_out (passes_of z w)) (14 * up w.frame_remain) (Ok (piece.Start, p))
unfolding piece_out
draw_begins z w p r d ez ew er el = (pass_sound z w p r d ez ew er el, (rw (ez, ew, er, el) (draws_on z w r d), rw ew (let a = some_left z w r in omega arith)))

-- the lines left at a pass
pub remain_line : (p : Place) → SoundPass p → Within 32 p.walk.frame_remain
remain_line p h = by p.walk.frame_remain h.left h.walk.lines
  where
    by : (v : ℤ) → 1 ≤ up v → up v ≤ 1023 → Within 32 v
    by (pos n) a b = within 32 (pos n) (omega arith) (omega arith)
    by (negsuc n) a b = absurd (omega arith)

-- passes without a line have led from w₀ to w: what is to come is the same
pub record Gone (z : Scaled) (w₀ w : Walk) : Type 0 where
  pub runs : Runs z w
  pub plan : plan_out (passes_of z w) ≡ plan_out (passes_of z w₀)
  pub lines : w.frame_remain ≡ w₀.frame_remain

pub gone_start : (z : Scaled) (w : Walk) → Runs z w → Gone z w w
gone_start z w r = record { runs = r; plan = refl; lines = refl }

module _ (z : Scaled) (w₀ w : Walk) (g : Gone z w₀ w) where
  module _ (t : eqb (draw_of w) 0 ≡ true) where
    -- one more
    pub gone_idle : (s : Source) (n : Walk) → yield s ≡ advance z w.source w.slice_rows → n ≡ next_pass z w.frame_y w.frame_remain w.count s → Gone z w₀ n
    gone_idle s n e i =
        rw i
        (record {
          runs = record { scaled = g.runs.scaled; walk = idle_kept z w s g.runs.scaled g.runs.walk t e; left = g.runs.left };
          plan = idle_on z w g.runs t s e ∙ g.plan;
          lines = g.lines;
        })

    -- the count of a pass without a line is below a line, and each pass adds to it
    pub gone_low : (s : Source) (n : Walk) → n ≡ next_pass z w.frame_y w.frame_remain w.count s → 1024 - up n.count < 1024 - up w.count
    gone_low s n i = rw i (by w.count g.runs.walk.count (eqb-true (draw_of w) 0 t))
      where
        by : (v : ℤ) → pos 0 ≤ℤ v → up (floor_div v 1024) ≡ 0 → 1024 - up (v +ℤ pos z.frame_rows) < 1024 - up v
        by (pos c) p d = omega (arith, g.runs.scaled.frame_rows)
        by (negsuc c) p d = absurd (omega zarith)

    pub gone_refused : refuse verdict.Address ≡ advance z w.source w.slice_rows → Begins (plan_out (passes_of z w₀)) (14 * up w₀.frame_remain) (Err verdict.Address)
    gone_refused e = idle_refused z w g.runs t e ∙ g.plan

  pub gone_draw : (b : Result (Piece × Place) Verdict) → Begins (plan_out (passes_of z w)) (14 * up w.frame_remain) b → Begins (plan_out (passes_of z w₀)) (14 * up w₀.frame_remain) b
  gone_draw (Ok q) h = let l = ap up g.lines in let n = h.1.1 in (h.0, (h.1.0 ∙ g.plan, omega arith))
  gone_draw (Err v) h = h ∙ g.plan

-- a pass's lines are few
pub lines_low : (p : Place) → SoundPass p → p.lines ≤ 2 ^ 21
lines_low p h = rw h.lines (by (draw_of p.walk) (left_after p.walk (draw_of p.walk)) (due_low p.walk.count h.walk.count'))
  where
    by : (d : ℕ) (v : ℤ) → d ≤ 2 ^ 21 → cut_lines d v ≤ 2 ^ 21
    by d (pos n) a = pick (lt_z (pos n) (pos 0)) (le-ltb n 0 (omega arith))
      where
        pick : (t : Bool) → t ≡ false → cond t (up (pos d +ℤ pos n)) d ≤ 2 ^ 21
        pick t e = rw e a
    by d (negsuc n) a = simp zdiff (simp zparts (omega zarith))
