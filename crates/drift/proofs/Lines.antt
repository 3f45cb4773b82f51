-- The lines of a finished plan's rectangles add up to the clipped height divided by 4 (D 8.23): each pass draws of the lines left, and its fuel is enough. D is docs/SPECIFICATION.md.
-- Assumes nothing.
use Rattle.std.specs.Prelude.{◌≡◌, refl, Bool, true, false, cond, ◌||◌, List, [], ◌∷◌, ◌++◌, ℕ, zero, suc, ◌+◌, ◌-◌, ◌*◌, ◌/◌, ◌%◌, ◌<◌, ◌≤◌, ◌^◌, eqb, ltb, ℤ, pos, negsuc, ◌+ℤ◌, ◌-ℤ◌, ◌*ℤ◌}
use Rattle.std.proofs.Common.{sym, ap, ◌∙◌, subst, true≢false, arith, le-div_iff_mul-le, eqb-true, ltb-true, ltb-false, le-ltb}
use Rattle.std.specs.Int.Signed.{lt_z}
use Rattle.signed.specs.Diff.{up, zdiff, zparts, zarith}
use Rattle.signed.specs.Floor.{floor_div, modulo, floor_mod, modulo_lt}
use Rattle.object.specs.declared.types.ObjBg.{ObjBg}
use Rattle.object.specs.declared.types.Verdict.{Verdict}
use Rattle.object.specs.declared.types.Verdict.TheVariants as verdict
use Rattle.checks.specs.Check.{Checked}
use Rattle.measures.specs.Measure.{quarters, texels}
use Rattle.object.specs.Layout.{Bytes, decode}
use Rattle.checks.specs.Check.{verdict_number}
use Rattle.checks.proofs.Passed.{decode_range}
use Rattle.plan.specs.Request.{Request}
use Rattle.plan.specs.declared.types.Entry.{Entry}
use Rattle.plan.specs.declared.types.Entry.TheVariants.{Image, Tile, Size, Load, Rect}
use Rattle.plan.specs.declared.types.Clip.{Clip}
use Rattle.plan.specs.declared.types.Start.{Start}
use Rattle.plan.specs.declared.types.Scaled.{Scaled}
use Rattle.plan.specs.declared.types.Source.{Source}
use Rattle.plan.specs.declared.types.Walk.{Walk}
use Rattle.plan.specs.Out.{Out, more, ◌>>=◌, yield, refuse, plan_out}
use Rattle.plan.specs.Out.Out.{go, stop}
use Rattle.plan.specs.Load.{source_address}
use Rattle.plan.specs.Scaled.{tile7, clip_of, start_of, scaled_of, first_of, first_pass, draw_of, advance, load_1cyc, pass, passes, scaled_plan, scaled_empty, slices_bad}
use Rattle.plan.specs.Whole.{plan_of, plan_with, checked_out, scaled_out}
use Rattle.plan.specs.Laws.{above, more_nil, passes_on, passes_end}
use Rattle.plan.specs.Demand.{lines_in}
use Rattle.drift.specs.Plain.{Plain, Refuses, Quiet, quiet_address, quiet_advance, quiet_rows}
use Rattle.drift.specs.Walk.{pass_left, pass_lines, pass_rows, pass_rect, drawn_next, idle_next}
use Rattle.drift.proofs.Walk.{idle_is, draw_is, lines_apart}
use Rattle.drift.specs.First.{count_at}
use Rattle.drift.proofs.Demand3.{checked_scaled, decoded_scale, or_false, positive, scaled_scale, scaled_frame}
use Rattle.drift.specs.Lines.{clipped_height}

-- ---- the lines of a list

lines_append : (es fs : List Entry) → lines_in (es ++ fs) ≡ lines_in es + lines_in fs
unfolding lines_in
lines_append [] fs = omega arith
lines_append (Image fmt siz width address ∷ es) fs = lines_append es fs
lines_append (Tile i fmt siz line tmem palette cms cmt masks maskt ∷ es) fs = lines_append es fs
lines_append (Size i uls ult lrs lrt ∷ es) fs = lines_append es fs
lines_append (Load i uls ult lrs lrt words rows stride start len ∷ es) fs = lines_append es fs
lines_append (Rect i ulx uly lrx lry uls ult dsdx dtdy row ∷ es) fs = omega (arith, lines_append es fs)

plain_lines : (es : List Entry) → Plain es → lines_in es ≡ 0
unfolding lines_in
plain_lines [] p = refl
plain_lines (Image fmt siz width address ∷ es) p = plain_lines es p
plain_lines (Tile i fmt siz line tmem palette cms cmt masks maskt ∷ es) p = plain_lines es p
plain_lines (Size i uls ult lrs lrt ∷ es) p = plain_lines es p
plain_lines (Load i uls ult lrs lrt words rows stride start len ∷ es) p = plain_lines es p
plain_lines (Rect i ulx uly lrx lry uls ult dsdx dtdy row ∷ es) p = absurd p

-- n lines if it goes on, and no more if it stops with a verdict above 0
abbrev Drawn : {A : Type 0} → ℕ → Out A → Type 0
Drawn n (go es a) = lines_in es ≡ n
Drawn n (stop es l v) = (lines_in es ≤ n) × Refuses v

drawn_more : {A : Type 0} (es : List Entry) (m n t : ℕ) (a : Out A) → lines_in es ≡ m → m + n ≡ t → Drawn n a → Drawn t (more es a)
drawn_more es m n t (go fs a) e s h = omega (arith, lines_append es fs)
drawn_more es m n t (stop fs l v) e s h = (omega (arith, lines_append es fs), h.1)

drawn_bind : {A B : Type 0} {P : A → Type 0} (n : ℕ) (a : Out A) (k : A → Out B) → Quiet P a → ((x : A) → Drawn n (k x)) → Drawn n (a >>= k)
drawn_bind n (go es x) k p f = drawn_more es 0 n n (k x) (plain_lines es p.still.0) (omega arith) (f x)
drawn_bind n (stop es l v) k p f = (omega (arith, plain_lines es p.still.0), p.still.1)

-- ---- the passes

rect_lines : (z : Scaled) (w : Walk) → lines_in (pass_rect z w ∷ []) ≡ pass_lines w
unfolding lines_in
rect_lines z w = omega (arith, lines_apart w.frame_y (pass_lines w))

drawn_end : (n : ℕ) (z : Scaled) (w : Walk) → lt_z (pos 0) w.frame_remain ≡ false → Drawn 0 (passes n z w)
unfolding lines_in
drawn_end n z w t = rw (passes_end n z w t) refl

none_above : (f : ℕ) → ltb 0 f ≡ false → f ≡ 0
none_above f t = omega (arith, ltb-false 0 f t)

-- the lines of a pass: those that its count gives, or those that are left
all_left : (f d : ℕ) → f ≤ d → cond (lt_z (pos f -ℤ pos d) (pos 0)) (up (pos d +ℤ (pos f -ℤ pos d))) d ≡ f
all_left f d h = by (lt_z (pos f -ℤ pos d) (pos 0)) refl
  where
    by : (t : Bool) → lt_z (pos f -ℤ pos d) (pos 0) ≡ t → cond t (up (pos d +ℤ (pos f -ℤ pos d))) d ≡ f
    by true t = simp zdiff (simp zparts (omega zarith))
    by false t = let g = simp zdiff at t in omega zarith

some_left : (f d : ℕ) → d < f → cond (lt_z (pos f -ℤ pos d) (pos 0)) (up (pos d +ℤ (pos f -ℤ pos d))) d ≡ d
some_left f d h = by (lt_z (pos f -ℤ pos d) (pos 0)) refl
  where
    by : (t : Bool) → lt_z (pos f -ℤ pos d) (pos 0) ≡ t → cond t (up (pos d +ℤ (pos f -ℤ pos d))) d ≡ d
    by true t = let g = simp zdiff at t in absurd (omega zarith)
    by false t = refl

nothing_left : (f d : ℕ) → f ≤ d → lt_z (pos 0) (pos f -ℤ pos d) ≡ false
nothing_left f d h = by (pos f -ℤ pos d) (simp zdiff (simp zparts (omega zarith)))
  where
    by : (v : ℤ) → up v ≡ 0 → lt_z (pos 0) v ≡ false
    by (pos n) e = le-ltb 0 n (omega arith)
    by (negsuc n) e = refl

-- what a pass draws and leaves; `rec` is the claim for the passes after it
module _ (m : ℕ) (z : Scaled) (w : Walk) (f c : ℕ) (r : 16 ≤ z.frame_rows) (p : w.frame_remain ≡ pos f) (q : w.count ≡ pos c) (e : 64 * f + 1 ≤ suc m + c / 16) (some : 0 < f)
    (rec : (w' : Walk) (f' c' : ℕ) → w'.frame_remain ≡ pos f' → w'.count ≡ pos c' → 1 ≤ m → 64 * f' + 1 ≤ m + c' / 16 → Drawn f' (passes m z w')) where
  count_gives : draw_of w ≡ c / 1024
  count_gives = ap (λ (v : ℤ). up (floor_div v 1024)) q

  left_is : pass_left w ≡ pos f -ℤ pos (c / 1024)
  left_is = ap (λ (v : ℤ). v -ℤ pos (draw_of w)) p ∙ ap (λ (n : ℕ). pos f -ℤ pos n) count_gives

  lines_are : pass_lines w ≡ cond (lt_z (pos f -ℤ pos (c / 1024)) (pos 0)) (up (pos (c / 1024) +ℤ (pos f -ℤ pos (c / 1024)))) (c / 1024)
  lines_are =
      ap (λ (v : ℤ). cond (lt_z (v -ℤ pos (draw_of w)) (pos 0)) (up (pos (draw_of w) +ℤ (v -ℤ pos (draw_of w)))) (draw_of w)) p
      ∙ ap (λ (n : ℕ). cond (lt_z (pos f -ℤ pos n) (pos 0)) (up (pos n +ℤ (pos f -ℤ pos n))) n) count_gives

  idle_lines : eqb (draw_of w) 0 ≡ true → Drawn f (pass z w >>= (λ next. passes m z next))
  idle_lines t =
      let none : draw_of w ≡ 0 = eqb-true (draw_of w) 0 t in
      let same : draw_of w ≡ c / 1024 = count_gives in
      let few : c / 1024 ≡ 0 = omega arith in
      rw (idle_is z w (λ next. passes m z next) t)
      (drawn_bind f (advance z w.source w.slice_rows) _ (quiet_advance z w.source w.slice_rows) (λ s.
      rw (more_nil (passes m z (idle_next z w s))) (rec (idle_next z w s) f (c + z.frame_rows) p (ap (λ (v : ℤ). v +ℤ pos z.frame_rows) q) (omega arith) (omega arith))))

  draw_lines : eqb (draw_of w) 0 ≡ false → Drawn f (pass z w >>= (λ next. passes m z next))
  draw_lines t =
      rw (draw_is z w (λ next. passes m z next) t)
      (drawn_bind f (load_1cyc z w.source (pass_rows z w)) _ (quiet_rows z w.source (pass_rows z w)) (λ s. by s (ltb (c / 1024) f) refl))
    where
      by : (s : Source) (u : Bool) → ltb (c / 1024) f ≡ u → Drawn f (more (pass_rect z w ∷ []) (passes m z (drawn_next z w s)))
      by s true u =
          let h : c / 1024 < f = ltb-true (c / 1024) f u in
          drawn_more (pass_rect z w ∷ []) (c / 1024) (f - c / 1024) f (passes m z (drawn_next z w s)) (rect_lines z w ∙ lines_are ∙ some_left f (c / 1024) h) (omega arith)
          (rec (drawn_next z w s) (f - c / 1024) (c % 1024 + z.frame_rows) (left_is ∙ above f (c / 1024) h) (ap (λ (v : ℤ). pos (modulo v 1024) +ℤ pos z.frame_rows) q) (omega arith) (omega arith))
      by s false u =
          let h : f ≤ c / 1024 = ltb-false (c / 1024) f u in
          drawn_more (pass_rect z w ∷ []) f 0 f (passes m z (drawn_next z w s)) (rect_lines z w ∙ lines_are ∙ all_left f (c / 1024) h) (omega arith)
          (drawn_end m z (drawn_next z w s) (ap (λ (v : ℤ). lt_z (pos 0) v) left_is ∙ nothing_left f (c / 1024) h))

-- with fuel enough the passes draw the lines that are left, whatever the count
pub passes_lines : (n : ℕ) (z : Scaled) (w : Walk) (f c : ℕ) → 16 ≤ z.frame_rows → w.frame_remain ≡ pos f → w.count ≡ pos c → 1 ≤ n → 64 * f + 1 ≤ n + c / 16 → Drawn f (passes n z w)
passes_lines zero z w f c r p q one e = absurd (omega arith)
passes_lines (suc m) z w f c r p q one e = by (ltb 0 f) refl (λ w' f' c' p' q'. passes_lines m z w' f' c' r p' q')
  where
    test : (t : Bool) → ltb 0 f ≡ t → lt_z (pos 0) w.frame_remain ≡ t
    test t h = ap (λ (v : ℤ). lt_z (pos 0) v) p ∙ h

    lined : ((w' : Walk) (f' c' : ℕ) → w'.frame_remain ≡ pos f' → w'.count ≡ pos c' → 1 ≤ m → 64 * f' + 1 ≤ m + c' / 16 → Drawn f' (passes m z w'))
        → 0 < f → (t : Bool) → eqb (draw_of w) 0 ≡ t → Drawn f (pass z w >>= (λ next. passes m z next))
    lined rec h true t = idle_lines m z w f c r p q e h rec t
    lined rec h false t = draw_lines m z w f c r p q e h rec t

    by : (t : Bool) → ltb 0 f ≡ t
        → ((w' : Walk) (f' c' : ℕ) → w'.frame_remain ≡ pos f' → w'.count ≡ pos c' → 1 ≤ m → 64 * f' + 1 ≤ m + c' / 16 → Drawn f' (passes m z w'))
        → Drawn f (passes (suc m) z w)
    by true t rec = rw (passes_on m z w (test true t)) (lined rec (ltb-true 0 f t) (eqb (draw_of w) 0) refl)
    by false t rec = subst (λ (n : ℕ). Drawn n (passes (suc m) z w)) (sym (none_above f t)) (drawn_end (suc m) z w (test false t))

-- ---- the first count: what is left of the strip that the start is in, whether the start is below the origin or above it

count_rest : (h f : ℕ) (u : ℤ) → 0 < f → count_at h f u ≡ pos (f - modulo (floor_div (u *ℤ pos 32) h *ℤ pos 1024) f)
count_rest h f u some =
    let x = floor_div (u *ℤ pos 32) h *ℤ pos 1024 in
    let g = pos f *ℤ floor_div x f in
    by x g (floor_div x f) (floor_div g 1024) (modulo x f) (modulo g 1024) (floor_mod x f some) (modulo_lt x some) refl (floor_mod g 1024 (omega arith))
  where
    by : (x g q k : ℤ) (r m : ℕ) → x ≡ q *ℤ pos f +ℤ pos r → r < f → g ≡ pos f *ℤ q → g ≡ k *ℤ pos 1024 +ℤ pos m → pos m +ℤ pos f -ℤ (x -ℤ k *ℤ pos 1024) ≡ pos (f - r)
    by x g q k r m e l a b =
        let e' = simp zdiff at e in
        let a' = simp zdiff at a in
        let b' = simp zdiff at b in
        simp zdiff (omega zarith)

pub first_natural : (z : Scaled) (i : Start) → 0 < z.frame_rows → (c : ℕ) × ((first_of z i).count ≡ pos c)
unfolding first_of
first_natural z i some = (_, count_rest z.scale_h.0 z.frame_rows (i.image_y.0 -ℤ i.origin.0) some)

-- ---- the plan

plan_lines : (z : Scaled) (i : Start) (c : Clip) → 16 ≤ z.frame_rows → Drawn (texels (quarters c.height)) (scaled_plan z c (first_of z i))
unfolding scaled_plan lines_in
plan_lines z i c r =
    let f = texels (quarters c.height) in
    drawn_bind f (source_address z.address (pos (z.stride * (first_of z i).image_row + z.x_offset))) _ (quiet_address _ _) (λ p.
    drawn_more (tile7 z (pos 0) ∷ Tile 0 z.fmt z.siz (z.line % 2 ^ 16) 0 z.palette 1 1 15 15 ∷ Size 0 0 0 0 0 ∷ []) 0 f f (passes (65 * f) z (first_pass z c (first_of z i) p)) refl (omega arith) (by p (ltb 0 f) refl))
  where
    by : (p : ℕ) (t : Bool) → ltb 0 (texels (quarters c.height)) ≡ t → Drawn (texels (quarters c.height)) (passes (65 * texels (quarters c.height)) z (first_pass z c (first_of z i) p))
    by p true t =
        let h : 0 < texels (quarters c.height) = ltb-true 0 (texels (quarters c.height)) t in
        let n = first_natural z i (omega arith) in
        passes_lines (65 * texels (quarters c.height)) z (first_pass z c (first_of z i) p) (texels (quarters c.height)) n.0 r refl n.1 (omega arith) (omega arith)
    by p false t =
        let w = first_pass z c (first_of z i) p in
        subst (λ (n : ℕ). Drawn n (passes (65 * texels (quarters c.height)) z w)) (sym (none_above (texels (quarters c.height)) t)) (drawn_end (65 * texels (quarters c.height)) z w t)

-- ---- the request

-- what is claimed of an outcome: finished, it has n lines
abbrev Adds : ℕ → Out (Unit {0}) → Type 0
Adds n o = (plan_out o).verdict ≡ verdict.Finished → lines_in (plan_out o).entries ≡ n

-- a refusal has not finished
adds_refused : (n : ℕ) (es l : List Entry) (v : Verdict) → Refuses v → Adds n (stop es l v)
adds_refused n es l v r e = absurd (true≢false (sym (ap (λ (x : Verdict). eqb (verdict_number x) 0) e) ∙ r))

adds_drawn : (n : ℕ) (o : Out (Unit {0})) → Drawn n o → Adds n o
adds_drawn n (go es u) h = λ e. h
adds_drawn n (stop es l v) h = adds_refused n es l v h.1

-- no scale is above 65,535, so a strip has at least 16 1,024ths of a frame line
pub frame_least : (bg : ObjBg) (mode address : ℕ) (c : Clip) (i : Start) → 1 ≤ bg.scale_h.0 → bg.scale_h.0 ≤ 65535 → slices_bad (scaled_of bg mode address c i) ≡ false → 16 ≤ (scaled_of bg mode address c i).frame_rows
frame_least bg mode address c i low high e =
    let z = scaled_of bg mode address c i in
    let some : 0 < z.image_rows = positive z.image_rows (or_false (eqb z.image_rows 0) (eqb z.stride 0) (or_rest (eqb z.source_rows 0) (eqb z.image_rows 0 || eqb z.stride 0) e)) in
    let h : z.scale_h.0 ≡ bg.scale_h.0 = scaled_scale bg mode address c i in
    rw (scaled_frame bg mode address c i) (by z.image_rows z.scale_h.0 some (omega arith) (omega arith))
  where
    or_rest : (a b : Bool) → (a || b) ≡ false → b ≡ false
    or_rest true b e = absurd (true≢false e)
    or_rest false b e = e

    by : (rows scale : ℕ) → 0 < rows → 0 < scale → scale ≤ 65535 → 16 ≤ rows * 1048576 / scale
    by rows scale r l h = (le-div_iff_mul-le l).1 (omega arith)

-- the lines of a clip, none where it is empty
abbrev lines_of : Clip → ℕ
lines_of c = texels (cond (scaled_empty c) 0 (quarters c.height))

scaled_lines : (bg : ObjBg) (q : Request) → 1 ≤ bg.scale_h.0 → bg.scale_h.0 ≤ 65535 → Adds (lines_of (clip_of bg q.scissor)) (scaled_out bg q)
unfolding scaled_out lines_in
scaled_lines bg q low high = by (scaled_empty c) (slices_bad z) refl
  where
    c : Clip
    c = clip_of bg q.scissor

    i : Start
    i = start_of bg c

    z : Scaled
    z = scaled_of bg q.mode q.address c i

    by : (t u : Bool) → slices_bad z ≡ u → Adds (texels (cond t 0 (quarters c.height))) (elim t [ true ↦ yield tt | false ↦ elim u [ true ↦ refuse verdict.Slices | false ↦ scaled_plan z c (first_of z i) ] ])
    by true u e = λ _. refl
    by false true e = adds_refused _ [] [] verdict.Slices refl
    by false false e = adds_drawn (texels (quarters c.height)) (scaled_plan z c (first_of z i)) (plan_lines z i c (frame_least bg q.mode q.address c i low high e))

-- D "The lines of a finished plan's rectangles add up to the clipped height divided by 4, rounded down"
pub lines_add_up : (q : Request) → q.opcode ≡ 9 → Bytes q.bytes → (plan_of q).verdict ≡ verdict.Finished → lines_in (plan_of q).entries ≡ clipped_height q / 4
unfolding plan_of plan_with checked_out
lines_add_up q o h =
    checked_scaled (λ (r : Checked). Adds (clipped_height q / 4) (checked_out r q)) (λ v r. adds_refused _ [] [] v r) q.bytes q.opcode q.scissor o
    (scaled_lines (decode 4 false q.bytes) q (decoded_scale q.bytes) (decode_range 4 false q.bytes h).scale_h)
