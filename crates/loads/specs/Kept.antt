-- Each pass keeps the walk's ranges.
-- Assumes nothing.
use Rattle.std.specs.Prelude.{◌≡◌, refl, Bool, true, false, ℕ, ◌+◌, ◌-◌, ◌*◌, ◌/◌, ◌^◌, ◌≤◌, max, eqb, ℤ, pos, negsuc, neg_ℤ, ◌+ℤ◌, ◌-ℤ◌, ◌*ℤ◌, ◌≤ℤ◌}
use Rattle.std.proofs.Common.{sym, ap, ◌∙◌, arith, eqb-true, le-ltb}
use Rattle.std.proofs.lemmas.Bool.{false≢true}
use Rattle.std.specs.Int.Signed.{lt_z}
use Rattle.signed.specs.Diff.{up, dn, zdiff, zparts, zarith}
use Rattle.signed.specs.Floor.{floor_div, modulo}
use Rattle.plan.specs.declared.types.Scaled.{Scaled}
use Rattle.plan.specs.declared.types.Source.{Source}
use Rattle.plan.specs.declared.types.Walk.{Walk}
use Rattle.plan.specs.Out.{Out, ◌>>=◌, yield}
use Rattle.plan.specs.Out.Out.{go, stop}
use Rattle.plan.specs.Load.{source_address}
use Rattle.plan.specs.Sound.{SoundScaled}
use Rattle.plan.specs.Scaled.{draw_of, left_after, lines_of, next_pass, after_draw, advance}
use Rattle.loads.specs.declared.types.Place.{Place}
use Rattle.measures.specs.Range.{Within}
use Rattle.loads.specs.Comes.{within}
use Rattle.loads.specs.Loads.{advance_on, advance_wrap}
use Rattle.loads.specs.Sound.{SoundWalk, SoundPass}

-- what a move does to the rows left: d of them, or, where none is left, the image's rows more
pub record Left (d : ℤ) (n : ℕ) (r : ℤ) : Type 0 where
  pub low : dn r ≤ dn d
  pub high : up r ≤ max (up d) n

-- the rows left of a source that a plan goes on with
abbrev remain_of : Out Source → ℤ
remain_of (go es s) = s.remain
remain_of (stop es l v) = pos 0

abbrev goes : Out Source → Bool
goes (go es s) = true
goes (stop es l v) = false

moved : (o : Out ℕ) (r : ℤ) (next : Source) → yield next ≡ (o >>= (λ p. yield (record { pointer = p; remain = r }))) → next.remain ≡ r
moved (go es p) r next e = ap remain_of e
moved (stop es l v) r next e = absurd (false≢true (sym (ap goes e)))

pub stay_left : (d r : ℤ) (n : ℕ) → r ≡ d → Left d n r
stay_left d r n e = rw e (record { low = omega arith; high = omega arith })

turned : (d r : ℤ) (n : ℕ) → r ≡ d +ℤ pos n → lt_z (pos 0) d ≡ false → Left d n r
turned (pos d) r n e t = rw e (record { low = omega arith; high = omega zarith })
turned (negsuc d) (pos r) n e t = let k = simp zdiff at e in record { low = omega zarith; high = omega zarith }
turned (negsuc d) (negsuc r) n e t = let k = simp zdiff at e in record { low = omega zarith; high = omega zarith }

pub advance_left : (z : Scaled) (src : Source) (rows : ℤ) (next : Source) → yield next ≡ advance z src rows → Left (src.remain -ℤ rows) z.source_rows next.remain
advance_left z src rows next e = by (lt_z (pos 0) (src.remain -ℤ rows)) refl
  where
    by : (t : Bool) → lt_z (pos 0) (src.remain -ℤ rows) ≡ t → Left (src.remain -ℤ rows) z.source_rows next.remain
    by true t = stay_left (src.remain -ℤ rows) next.remain z.source_rows (moved (source_address src.pointer (pos z.stride *ℤ rows)) (src.remain -ℤ rows) next (e ∙ advance_on z src rows t))
    by false t =
        turned (src.remain -ℤ rows) next.remain z.source_rows
        (moved (source_address z.address (neg_ℤ (src.remain -ℤ rows) *ℤ pos z.stride +ℤ pos z.x_offset)) (src.remain -ℤ rows +ℤ pos z.source_rows) next (e ∙ advance_wrap z src rows t)) t

-- the rows left after at most 512 rows, or after rows that were negative
module _ (a rows r : ℤ) (n : ℕ) (l : Left (a -ℤ rows) n r) (h : rows ≤ℤ pos 512) where
  left_low : dn r ≤ dn a + 512
  left_low = by (a -ℤ rows) (dn (a -ℤ rows)) l.low low
    where
      low : dn (a -ℤ rows) ≤ dn a + 512
      low = simp zdiff (simp zparts (omega zarith))

      by : (d : ℤ) (m : ℕ) → dn r ≤ m → m ≤ dn a + 512 → dn r ≤ dn a + 512
      by d m p q = omega arith

  left_high : up r ≤ max (up a + dn rows) n
  left_high = by (up (a -ℤ rows)) l.high high
    where
      high : up (a -ℤ rows) ≤ up a + dn rows
      high = simp zdiff (simp zparts (omega zarith))

      by : (m : ℕ) → up r ≤ max m n → m ≤ up a + dn rows → up r ≤ max (up a + dn rows) n
      by m p q = omega arith

-- the walk after a pass without a line
module _ (z : Scaled) (w : Walk) (s : Source) (zs : SoundScaled z) (h : SoundWalk w) (t : eqb (draw_of w) 0 ≡ true) (e : yield s ≡ advance z w.source w.slice_rows) where
  pub idle_kept : SoundWalk (next_pass z w.frame_y w.frame_remain w.count s)
  idle_kept =
      let l = advance_left z w.source w.slice_rows s e in
      let lo = left_low w.source.remain w.slice_rows s.remain z.source_rows l h.slice_rows' in
      let hi = left_high w.source.remain w.slice_rows s.remain z.source_rows l h.slice_rows' in
      let d : draw_of w ≡ 0 = eqb-true (draw_of w) 0 t in
      by w.count h.count d lo hi h.low h.high
    where
      by : (v : ℤ) → pos 0 ≤ℤ v → up (floor_div v 1024) ≡ 0 → dn s.remain ≤ dn w.source.remain + 512 → up s.remain ≤ max (up w.source.remain + dn w.slice_rows) z.source_rows
          → dn w.source.remain + 1280000 * up w.frame_remain ≤ 2 ^ 40 + 20000 * (up v / 16) → up w.source.remain + dn w.slice_rows ≤ 2 ^ 28
          → SoundWalk (next_pass z w.frame_y w.frame_remain v s)
      by (pos c) p d lo hi q r =
          record {
            frame_y = h.frame_y;
            lines = h.lines;
            count = omega zarith;
            count' = omega (zarith, zs.frame_rows');
            slice_rows = omega zarith;
            slice_rows' = omega (zarith, zs.image_rows');
            t = omega arith;
            low = omega (arith, zs.frame_rows);
            high = omega (arith, zs.source_rows');
          }
      by (negsuc c) p d lo hi q r = absurd (omega zarith)

pub not_over : (v : ℤ) → pos 1 ≤ℤ v → lt_z v (pos 0) ≡ false
not_over (pos n) h = le-ltb n 0 (omega arith)
not_over (negsuc n) h = absurd (omega zarith)

-- where lines are left, the pass draws all its lines
all_drawn : (w : Walk) (draw lines : ℕ) → lines ≡ lines_of w draw → pos 1 ≤ℤ left_after w draw → lines ≡ draw
all_drawn w draw lines e h = e ∙ (rw (not_over (left_after w draw) h))

-- the walk after a pass that draws, where lines are left
module _ (p : Place) (next : Source) (h : SoundPass p) (l : Left (p.walk.source.remain -ℤ p.rows) p.scaled.source_rows next.remain) (more : pos 1 ≤ℤ left_after p.walk (draw_of p.walk)) where
  pub draw_kept : SoundWalk (after_draw p.scaled p.walk (draw_of p.walk) p.lines next)
  draw_kept =
      let w = p.walk in
      let g = h.walk in
      let lo = left_low w.source.remain p.rows next.remain p.scaled.source_rows l h.rows' in
      let hi = left_high w.source.remain p.rows next.remain p.scaled.source_rows l h.rows' in
      by w.count w.frame_remain g.count more (all_drawn w (draw_of w) p.lines h.lines more) (ap dn (h.whole more)) lo hi g.low g.high g.frame_y g.lines
    where
      by : (v f : ℤ) → pos 0 ≤ℤ v → pos 1 ≤ℤ (f -ℤ pos (up (floor_div v 1024))) → p.lines ≡ up (floor_div v 1024) → dn p.rows ≡ dn p.walk.slice_rows
          → dn next.remain ≤ dn p.walk.source.remain + 512 → up next.remain ≤ max (up p.walk.source.remain + dn p.rows) p.scaled.source_rows
          → dn p.walk.source.remain + 1280000 * up f ≤ 2 ^ 40 + 20000 * (up v / 16) → up p.walk.source.remain + dn p.walk.slice_rows ≤ 2 ^ 28 → p.walk.frame_y + up f ≤ 4096 → up f ≤ 1023
          → SoundWalk (next_pass p.scaled (p.walk.frame_y + p.lines) (f -ℤ pos (up (floor_div v 1024))) (pos (modulo v 1024)) next)
      by (pos c) (pos f) vp fp ln dr lo hi q r fy fl =
          let k = simp zdiff at fp in
          let m : up (pos f -ℤ pos (c / 1024)) ≡ f - c / 1024 = simp zdiff (simp zparts (omega zarith)) in
          let zs = h.scaled in
          record {
            frame_y = rw m (omega zarith);
            lines = rw m (omega zarith);
            count = omega zarith;
            count' = omega (zarith, zs.frame_rows');
            slice_rows = omega zarith;
            slice_rows' = omega (zarith, zs.image_rows');
            t = omega arith;
            low = rw m (omega (zarith, zs.frame_rows));
            high = omega (arith, zs.source_rows');
          }
      by (pos c) (negsuc f) vp fp ln dr lo hi q r fy fl = let k = simp zdiff at fp in absurd (omega zarith)
      by (negsuc c) f vp fp ln dr lo hi q r fy fl = absurd (omega zarith)

-- the ranges of a walk's row counts, as powers of two
pub remain_in : (w : Walk) → SoundWalk w → Within 43 w.source.remain
remain_in w h = by w.count h.count h.count' h.low h.high
  where
    by : (v : ℤ) → pos 0 ≤ℤ v → v ≤ℤ pos (2 ^ 31) → dn w.source.remain + 1280000 * up w.frame_remain ≤ 2 ^ 40 + 20000 * (up v / 16) → up w.source.remain + dn w.slice_rows ≤ 2 ^ 28 → Within 43 w.source.remain
    by (pos c) p q l k = within 43 w.source.remain (omega zarith) (omega zarith)
    by (negsuc c) p q l k = absurd (omega zarith)

pub rows_in : (p : Place) → SoundPass p → Within 43 p.rows
rows_in p h = let a = h.rows in let b = h.rows' in record { low = omega zarith; high = omega zarith }

pub slice_in : (w : Walk) → SoundWalk w → Within 43 w.slice_rows
slice_in w h = let a = h.slice_rows in let b = h.slice_rows' in record { low = omega zarith; high = omega zarith }
