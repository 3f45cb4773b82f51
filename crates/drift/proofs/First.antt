-- The first strip in closed form: the start is at or below the origin, so that all of it is natural.
-- Assumes nothing.
use Rattle.std.specs.Prelude.{◌≡◌, Bool, true, cond, ℕ, suc, ◌+◌, ◌-◌, ◌*◌, ◌/◌, ◌%◌, ◌<◌, ◌≤◌, ℤ, pos, neg_ℤ, ◌+ℤ◌, ◌-ℤ◌, ◌*ℤ◌}
use Rattle.std.proofs.Common.{sym, ap, ◌∙◌, subst, arith, div-add-mod', mod-lt, le-leb}
use Rattle.std.specs.Int.Signed.{le_z}
use Rattle.signed.specs.Diff.{zdiff, zarith}
use Rattle.signed.specs.Floor.{floor_div, modulo, floor_mod}
use Rattle.measures.specs.Measure.{row_part}
use Rattle.plan.specs.declared.types.Clip.{Clip}
use Rattle.plan.specs.declared.types.Start.{Start}
use Rattle.plan.specs.declared.types.Scaled.{Scaled}
use Rattle.plan.specs.declared.types.First.{First}
use Rattle.plan.specs.Scaled.{first_of, first_pass}
use Rattle.drift.specs.Core
use Rattle.drift.proofs.Line.{same_rest}
use Rattle.drift.specs.Walk.{row_at, Fixed, At}
use Rattle.drift.specs.First.{FirstIs, slice_at, hidden_at, count_at, drift_at}

module _ (h f dist : ℕ) (some : 0 < f) where
  abbrev pub line_of : ℕ
  line_of = dist * 32 / h

  abbrev pub slice_of : ℕ
  slice_of = dist * 32 / h * 1024 / f

  abbrev pub above_of : ℕ
  above_of = dist * 32 / h - f * (dist * 32 / h * 1024 / f) / 1024

  below_start : f * slice_of ≤ 1024 * line_of
  below_start = omega (arith, div-add-mod' (dist * 32 / h * 1024) f)

  beyond_start : 1024 * line_of ≤ f * suc slice_of
  beyond_start = omega (arith, div-add-mod' (dist * 32 / h * 1024) f, mod-lt (dist * 32 / h * 1024) some)

  split_is : above_of + f * slice_of / 1024 ≡ line_of
  split_is = let b : f * slice_of ≤ 1024 * line_of = below_start in omega arith

  hidden_is : hidden_at h f (pos dist) ≡ pos (above_of * 1024)
  hidden_is = let b : f * slice_of ≤ 1024 * line_of = below_start in by line_of (f * slice_of) b
    where
      by : (l g : ℕ) → g ≤ 1024 * l → pos (l * 1024) -ℤ pos (g / 1024 * 1024) ≡ pos ((l - g / 1024) * 1024)
      by l g b = simp zdiff (omega zarith)

  count_is : count_at h f (pos dist) ≡ pos (f * suc slice_of - 1024 * line_of)
  count_is = by line_of (f * slice_of) (f * suc slice_of) below_start beyond_start (omega arith)
    where
      by : (l g g' : ℕ) → g ≤ 1024 * l → 1024 * l ≤ g' → g' ≡ g + f → pos (g % 1024) +ℤ pos f -ℤ (pos (l * 1024) -ℤ pos (g / 1024 * 1024)) ≡ pos (g' - 1024 * l)
      by l g g' b c e = simp zdiff (omega zarith)

pub first_is : (z : Scaled) (i : Start) (dist : ℕ) (some : 0 < z.frame_rows) → i.image_y.0 -ℤ i.origin.0 ≡ pos dist
    → FirstIs z i (first_of z i) (slice_of z.scale_h.0 z.frame_rows dist some) (line_of z.scale_h.0 z.frame_rows dist some) (above_of z.scale_h.0 z.frame_rows dist some)
unfolding first_of
first_is z i dist some e =
    let h = z.scale_h.0 in
    let f = z.frame_rows in
    let hid = above_of z.scale_h.0 z.frame_rows dist some in
    let s : slice_at h f (i.image_y.0 -ℤ i.origin.0) ≡ pos (slice_of h f dist some) = ap (slice_at h f) e in
    let g : hidden_at h f (i.image_y.0 -ℤ i.origin.0) ≡ pos (hid * 1024) = ap (hidden_at h f) e ∙ hidden_is h f dist some in
    let m : floor_div (hidden_at h f (i.image_y.0 -ℤ i.origin.0)) 1024 *ℤ pos h ≡ pos (hid * h) = ap (λ (u : ℤ). floor_div u 1024 *ℤ pos h) g ∙ ap (λ (n : ℕ). pos (n * h)) (whole hid) in
    record {
      slice = s;
      hidden = m;
      enough = beyond_start h f dist some;
      count = ap (count_at h f) e ∙ count_is h f dist some;
      t = ap row_part m;
      slice_rows = ap (λ (u : ℤ). pos z.image_rows -ℤ floor_div u 1024) m;
      image_row = ap (λ (u : ℤ). modulo (pos z.image_rows *ℤ u +ℤ floor_div i.origin.0 32 +ℤ floor_div (floor_div (hidden_at h f (i.image_y.0 -ℤ i.origin.0)) 1024 *ℤ pos h) 1024) z.source_rows) s ∙ ap (λ (u : ℤ). modulo (pos z.image_rows *ℤ pos (slice_of h f dist some) +ℤ floor_div i.origin.0 32 +ℤ floor_div u 1024) z.source_rows) m;
      split = split_is h f dist some;
    }
  where
    whole : (n : ℕ) → n * 1024 / 1024 ≡ n
    whole n = omega arith

itself : (k : ℕ) (s : ℤ) → s ≡ pos k → le_z (pos k) s ≡ true
itself k s e = rw e (le-leb k k (omega arith))

-- the first strip's row before the remainder
pub first_row : (z : Scaled) (i : Start) (f : First) (k0 l hid image_h carry lines start : ℕ) (origin : ℤ) → FirstIs z i f k0 l hid
    → row_at (drift_at z f image_h carry lines start origin) (pos k0) ≡ pos (z.image_rows * k0) +ℤ floor_div origin 32 +ℤ pos carry +ℤ pos (hid * z.scale_h.0 / 1024)
first_row z i f k0 l hid image_h carry lines start origin g = by (pos (z.image_rows * k0) +ℤ floor_div origin 32 +ℤ pos carry) (le_z (pos k0) f.slice) (itself k0 f.slice g.slice)
  where
    by : (a : ℤ) (t : Bool) → t ≡ true → a +ℤ cond t (floor_div f.image_hidden 1024) (pos 0) ≡ a +ℤ pos (hid * z.scale_h.0 / 1024)
    by a t e = subst (λ (u : Bool). a +ℤ cond u (floor_div f.image_hidden 1024) (pos 0) ≡ a +ℤ pos (hid * z.scale_h.0 / 1024)) (sym e) (ap (λ (u : ℤ). a +ℤ floor_div u 1024) g.hidden)

-- what is left over: rows and t hold the hidden part but for less than 32
parted : (x : ℕ) → x ≤ 1024 * (x / 1024) + 32 * (x / 32 % 32) + 31
parted x = omega arith

held : (x : ℕ) → 1024 * (x / 1024) + 32 * (x / 32 % 32) ≤ x
held x = omega arith

-- the walk before the first pass is in the closed form; whole images in the origin do not matter
pub first_at : (z : Scaled) (i : Start) (c : Clip) (f : First) (p k0 l hid image_h carry lines start rho e wrap : ℕ) (origin : ℤ) → FirstIs z i f k0 l hid
    → Fixed (drift_at z f image_h carry lines start origin) z k0 l rho e
    → floor_div i.origin.0 32 ≡ floor_div origin 32 +ℤ pos carry -ℤ pos wrap *ℤ pos z.source_rows
    → At (drift_at z f image_h carry lines start origin) z k0 l (first_pass z c f p) k0 0 (z.frame_rows * suc k0 - 1024 * l) (1024 * (hid * z.scale_h.0 / 1024) + 32 * (hid * z.scale_h.0 / 32 % 32))
first_at z i c f p k0 l hid image_h carry lines start rho e wrap origin g x o =
    let h = z.scale_h.0 in
    let fr = z.frame_rows in
    let row = first_row z i f k0 l hid image_h carry lines start origin g in
    let ahead : h * (fr * k0 / 1024) ≤ 1024 * (z.image_rows * k0) = Core.behind fr h e (fr * k0 % 1024) (fr * k0 / 1024) k0 z.image_rows x.frame (omega arith) in
    let back : 1048576 * (z.image_rows * k0) ≤ 1024 * (h * (fr * k0 / 1024)) + (1024 * h + h * k0) = Core.before fr h e (fr * k0 % 1024) (fr * k0 / 1024) k0 z.image_rows x.frame x.frame_rest (omega arith) (omega arith) in
    let both : h * (hid + fr * k0 / 1024) ≡ h * l = ap (λ (n : ℕ). h * n) g.split in
    record {
      late = omega arith;
      count = g.count;
      lines = omega (arith, g.enough);
      row = start_row f.image_row z.source_rows (row_at (drift_at z f image_h carry lines start origin) (pos k0)) (pos (z.image_rows * k0)) (floor_div i.origin.0 32) (floor_div origin 32) (pos carry) (pos (hid * h / 1024)) x.some g.image_row row o;
      rows = rw (row, g.slice_rows) (first_rows (floor_div origin 32) (pos carry) z.image_rows k0 (pos (hid * h / 1024)));
      t = rw g.t (record { low = omega zarith; high = omega zarith });
      sampled = rw (row, g.t) (first_sampled (floor_div origin 32) (pos carry) (pos (z.image_rows * k0)) (hid * h / 1024) (hid * h / 32 % 32));
      behind = omega (arith, parted (hid * h));
      before = omega (arith, held (hid * h));
    }
  where
    first_rows : (o c : ℤ) (r k : ℕ) (v : ℤ) → pos (r * suc k) +ℤ o +ℤ c ≡ pos (r * k) +ℤ o +ℤ c +ℤ v +ℤ (pos r -ℤ v)
    first_rows o c r k v = by (pos (r * k)) (pos (r * suc k)) (pos r) (ap pos (omega arith))
      where
        by : (a b i : ℤ) → b ≡ a +ℤ i → b +ℤ o +ℤ c ≡ a +ℤ o +ℤ c +ℤ v +ℤ (i -ℤ v)
        by a b i e = rw e (simp zdiff (omega zarith))

    first_sampled : (o c a : ℤ) (v t : ℕ) → pos 1024 *ℤ (a +ℤ o +ℤ c +ℤ pos v) +ℤ pos (32 * t) ≡ pos 1024 *ℤ a +ℤ pos 1024 *ℤ (o +ℤ c) +ℤ pos (1024 * v + 32 * t)
    first_sampled o c a v t = simp zdiff (omega zarith)

    start_row : (ir n : ℕ) (y a o' o c v : ℤ) → 0 < n → ir ≡ modulo (a +ℤ o' +ℤ v) n → y ≡ a +ℤ o +ℤ c +ℤ v → o' ≡ o +ℤ c -ℤ pos wrap *ℤ pos n → modulo (pos n -ℤ (pos n -ℤ pos ir)) n ≡ modulo y n
    start_row ir n y a o' o c v some e f g =
        same_rest (pos n -ℤ (pos n -ℤ pos ir)) y (neg_ℤ (pos wrap) -ℤ floor_div (a +ℤ o' +ℤ v) n) n some (by (floor_div (a +ℤ o' +ℤ v) n) (modulo (a +ℤ o' +ℤ v) n) e (floor_mod (a +ℤ o' +ℤ v) n some))
      where
        by : (q : ℤ) (r : ℕ) → ir ≡ r → a +ℤ o' +ℤ v ≡ q *ℤ pos n +ℤ pos r → pos n -ℤ (pos n -ℤ pos ir) ≡ y +ℤ (neg_ℤ (pos wrap) -ℤ q) *ℤ pos n
        by q r i s =
            let s' = simp zdiff at s in
            let f' = simp zdiff at f in
            let g' = simp zdiff at g in
            simp zdiff (omega zarith)
