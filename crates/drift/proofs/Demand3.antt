-- Demand 3 of every request, from the walk in closed form. D is docs/SPECIFICATION.md.
-- Assumes nothing.
use Rattle.std.specs.Prelude.{◌≡◌, refl, Bool, true, false, ◌||◌, List, [], ◌∷◌, ℕ, zero, suc, ◌+◌, ◌-◌, ◌*◌, ◌/◌, ◌%◌, ◌<◌, ◌≤◌, ◌^◌, eqb, ltb, ℤ, pos, negsuc, ◌+ℤ◌, ◌-ℤ◌, ◌*ℤ◌, ◌≤ℤ◌, Ok, Err}
use Rattle.std.proofs.Common.{sym, ap, ◌∙◌, subst, arith, div-add-mod', mod-lt, ltb-true, ltb-false, eq-eqb}
use Rattle.std.proofs.lemmas.Bool.{eqb-false}
use Rattle.std.specs.Int.Signed.{lt_z}
use Rattle.signed.specs.Diff.{up, zdiff, zparts, zarith}
use Rattle.signed.specs.Floor.{floor_div, modulo, floor_mod, floor_unique, modulo_lt}
use Rattle.plan.specs.Request.{Request}
use Rattle.object.specs.declared.types.ObjBg.{ObjBg}
use Rattle.measures.specs.Measure.{quarters, thirty_seconds, texels, sampled_by}
use Rattle.object.specs.Layout.{decode}
use Rattle.plan.specs.Out.{Out, yield, refuse, plan_out}
use Rattle.plan.specs.declared.types.Entry.TheVariants.{Tile, Size}
use Rattle.plan.specs.Out.Out.{go, stop}
use Rattle.plan.specs.Load.{source_address}
use Rattle.plan.specs.declared.types.Clip.{Clip}
use Rattle.plan.specs.declared.types.Start.{Start}
use Rattle.plan.specs.declared.types.Scaled.{Scaled}
use Rattle.plan.specs.declared.types.Walk.{Walk}
use Rattle.plan.specs.Scaled.{tile7, clip_of, start_of, scaled_of, first_of, first_pass, draw_of, advance, passes, scaled_plan, scaled_empty, slices_bad}
use Rattle.object.specs.declared.types.Verdict.{Verdict}
use Rattle.object.specs.declared.types.Verdict.TheVariants as verdict
use Rattle.checks.specs.Check.{Checked}
use Rattle.object.specs.declared.types.Background.TheVariants as background
use Rattle.object.specs.declared.types.Scissor.{Scissor}
use Rattle.checks.specs.Check.{any, object_faults, opcode_bad, copies, short, scissor_bad, refused_by, object_of, checked_of}
use Rattle.plan.specs.Whole.{plan_of, plan_with, checked_out, scaled_out}
use Rattle.plan.specs.Laws.{entries_out, more_nil, passes_on, passes_end}
use Rattle.plan.specs.Demand.{Drift, drift_of, strips, strips_of, AllNear, Demand3}
use Rattle.drift.specs.Plain.{Refuses, plain_near, near_bind, entries_more, quiet_address, quiet_advance}
use Rattle.drift.specs.Walk.{Fixed, idle_next}
use Rattle.drift.proofs.Walk.{passes_near, idle_is}
use Rattle.drift.specs.First.{FirstIs, drift_at, count_at}
use Rattle.drift.proofs.First.{first_is, first_at, slice_of, above_of}
use Rattle.drift.specs.Proof.{Fit, drift_from}

-- ---- the start: whole images and `carry` cancel in the distance from the origin

distance_is : (y sh start carry : ℕ) (o : ℤ) → y ≡ start + carry * 32 → pos (y % sh) -ℤ (o +ℤ pos (carry * 32) -ℤ pos (y / sh * sh)) ≡ pos start -ℤ o
distance_is y sh start carry o e = by (y % sh) (y / sh * sh) (div-add-mod' y sh)
  where
    by : (r q : ℕ) → q + r ≡ y → pos r -ℤ (o +ℤ pos (carry * 32) -ℤ pos q) ≡ pos start -ℤ o
    by r q f = simp zdiff (omega zarith)

pub start_distance : (bg : ObjBg) (c : Clip) → (start_of bg c).image_y.0 -ℤ (start_of bg c).origin.0 ≡ pos (thirty_seconds bg.image_y + sampled_by (quarters c.top) bg.scale_h.0) -ℤ bg.image_y_orig.0
unfolding start_of
start_distance bg c =
    distance_is (thirty_seconds bg.image_y + sampled_by (quarters c.top) bg.scale_h.0 + (start_of bg c).carry * 32) (quarters bg.image_h * 8) (thirty_seconds bg.image_y + sampled_by (quarters c.top) bg.scale_h.0) (start_of bg c).carry bg.image_y_orig.0 refl

rows_of : (o p : ℤ) (carry wrap n sh om : ℕ) → om < 32 → o ≡ p *ℤ pos 32 +ℤ pos om → sh ≡ 32 * n → floor_div (o +ℤ pos (carry * 32) -ℤ pos (wrap * sh)) 32 ≡ p +ℤ pos carry -ℤ pos wrap *ℤ pos n
rows_of o p carry wrap n sh om l e f =
    sym (floor_unique (o +ℤ pos (carry * 32) -ℤ pos (wrap * sh)) 32 (p +ℤ pos carry -ℤ pos wrap *ℤ pos n) om l (rw (e, f) (simp zdiff (omega zarith)))).quot

pub start_origin : (bg : ObjBg) (c : Clip) (n : ℕ) → quarters bg.image_h * 8 ≡ 32 * n → floor_div (start_of bg c).origin.0 32 ≡ floor_div bg.image_y_orig.0 32 +ℤ pos (start_of bg c).carry -ℤ pos (start_of bg c).wrap *ℤ pos n
unfolding start_of
start_origin bg c n f =
    rows_of bg.image_y_orig.0 (floor_div bg.image_y_orig.0 32) (start_of bg c).carry (start_of bg c).wrap n (quarters bg.image_h * 8) (modulo bg.image_y_orig.0 32) (modulo_lt bg.image_y_orig.0 (omega arith)) (floor_mod bg.image_y_orig.0 32 (omega arith)) f

-- ---- with no frame rows nothing is drawn

none_drawn : (x : ℤ) → up x ≡ 0 → up (floor_div x 1024) ≡ 0
none_drawn (pos n) e = omega arith
none_drawn (negsuc n) e = refl

idle_more : (x : ℤ) (f : ℕ) → f ≡ 0 → up x ≡ 0 → up (x +ℤ pos f) ≡ 0
idle_more x f e g = simp zdiff (simp zparts (omega zarith))

pub idle_passes : (n : ℕ) (d : Drift) (earlier : ℕ) (ks : List ℤ) (z : Scaled) (w : Walk) → z.frame_rows ≡ 0 → up w.count ≡ 0 → AllNear d earlier ks (entries_out (passes n z w))
unfolding passes
idle_passes zero d earlier ks z w e g = tt
idle_passes (suc n) d earlier ks z w e g = by (lt_z (pos 0) w.frame_remain) refl (λ w'. idle_passes n d earlier ks z w' e)
  where
    by : (t : Bool) → lt_z (pos 0) w.frame_remain ≡ t → ((w' : Walk) → up w'.count ≡ 0 → AllNear d earlier ks (entries_out (passes n z w'))) → AllNear d earlier ks (entries_out (passes (suc n) z w))
    by true t r =
        rw (passes_on n z w t, idle_is z w (λ next. passes n z next) (eq-eqb (draw_of w) 0 (none_drawn w.count g)))
        (near_bind d earlier ks (advance z w.source w.slice_rows) _ (quiet_advance z w.source w.slice_rows) (λ s h.
        rw (more_nil (passes n z (idle_next z w s))) (r (idle_next z w s) (idle_more w.count z.frame_rows e g))))
    by false t r = rw (passes_end (suc n) z w t) tt

none_count : (h f dist : ℕ) → f ≡ 0 → up (count_at h f (pos dist)) ≡ 0
none_count h f dist e = by (dist * 32 / h) (f * (dist * 32 / h * 1024 / f)) (omega (arith, ap (λ (u : ℕ). u * (dist * 32 / h * 1024 / f)) e))
  where
    by : (l g : ℕ) → g ≡ 0 → up (pos (g % 1024) +ℤ pos f -ℤ (pos (l * 1024) -ℤ pos (g / 1024 * 1024))) ≡ 0
    by l g i = simp zdiff (simp zparts (omega zarith))

pub first_count : (z : Scaled) (i : Start) (dist : ℕ) → z.frame_rows ≡ 0 → i.image_y.0 -ℤ i.origin.0 ≡ pos dist → up (first_of z i).count ≡ 0
unfolding first_of
first_count z i dist e g = ap (λ (u : ℤ). up (count_at z.scale_h.0 z.frame_rows u)) g ∙ none_count z.scale_h.0 z.frame_rows dist e

natural : (o : ℤ) (s : ℕ) → o ≤ℤ pos s → pos s -ℤ o ≡ pos (up (pos s -ℤ o))
natural o s h = simp zdiff (simp zparts (omega zarith))

module _ (z : Scaled) (i : Start) (c : Clip) (image_h start e : ℕ) (origin : ℤ) (fit : Fit z i image_h start e origin) where
  abbrev far : ℕ
  far = up (pos start -ℤ origin)

  far_is : i.image_y.0 -ℤ i.origin.0 ≡ pos far
  far_is = fit.distance ∙ natural origin start fit.below

  abbrev numbers : Drift
  numbers = drift_at z (first_of z i) image_h i.carry (texels (quarters c.height)) start origin

  first_fixed : (k0 hid : ℕ) → FirstIs z i (first_of z i) k0 (far * 32 / z.scale_h.0) hid → Fixed numbers z k0 (far * 32 / z.scale_h.0) (far * 32 % z.scale_h.0) e
  first_fixed k0 hid g =
      record {
        rows = fit.rows;
        some = fit.some;
        source = refl;
        held = refl;
        frame = fit.frame;
        frame_rest = fit.frame_rest;
        slice = g.slice;
        offset = by far (z.scale_h.0 * (far * 32 / z.scale_h.0) + far * 32 % z.scale_h.0) (omega (arith, div-add-mod' (far * 32) z.scale_h.0)) (natural origin start fit.below);
        rest = mod-lt (far * 32) (omega (arith, fit.frame_rest));
      }
    where
      by : (n m : ℕ) → m ≡ n * 32 → pos start -ℤ origin ≡ pos n → pos (32 * start) ≡ pos 32 *ℤ origin +ℤ pos m
      by n m f g = let g' = simp zdiff at g in simp zdiff (omega zarith)

  walk_near : (p : ℕ) → AllNear numbers 0 (strips_of numbers) (entries_out (passes (65 * texels (quarters c.height)) z (first_pass z c (first_of z i) p)))
  walk_near p = by (ltb 0 z.frame_rows) refl
    where
      by : (t : Bool) → ltb 0 z.frame_rows ≡ t → AllNear numbers 0 (strips_of numbers) (entries_out (passes (65 * texels (quarters c.height)) z (first_pass z c (first_of z i) p)))
      by true t =
          let f : 0 < z.frame_rows = ltb-true 0 z.frame_rows t in
          let k0 = slice_of z.scale_h.0 z.frame_rows far f in
          let l = far * 32 / z.scale_h.0 in
          let hid = above_of z.scale_h.0 z.frame_rows far f in
          let g = first_is z i far f far_is in
          let x = first_fixed k0 hid g in
          subst (λ (k : ℤ). AllNear numbers 0 (strips (65 * texels (quarters c.height)) z.frame_rows k (pos (texels (quarters c.height))) (first_of z i).count) (entries_out (passes (65 * texels (quarters c.height)) z (first_pass z c (first_of z i) p)))) (sym g.slice)
          (passes_near (65 * texels (quarters c.height)) numbers z k0 l (far * 32 % z.scale_h.0) e x (first_pass z c (first_of z i) p) k0 0 (z.frame_rows * suc k0 - 1024 * l) (1024 * (hid * z.scale_h.0 / 1024) + 32 * (hid * z.scale_h.0 / 32 % 32))
          (first_at z i c (first_of z i) p k0 l hid image_h i.carry (texels (quarters c.height)) start (far * 32 % z.scale_h.0) e i.wrap origin g x fit.first))
      by false t =
          let f : z.frame_rows ≡ 0 = omega (arith, ltb-false 0 z.frame_rows t) in
          idle_passes (65 * texels (quarters c.height)) numbers 0 (strips_of numbers) z (first_pass z c (first_of z i) p) f (first_count z i far f far_is)

  plan_near : AllNear numbers 0 (strips_of numbers) (entries_out (scaled_plan z c (first_of z i)))
  unfolding scaled_plan
  plan_near =
      near_bind numbers 0 (strips_of numbers) (source_address z.address (pos (z.stride * (first_of z i).image_row + z.x_offset))) _ (quiet_address _ _) (λ p _.
      rw (entries_more (tile7 z (pos 0) ∷ Tile 0 z.fmt z.siz (z.line % 2 ^ 16) 0 z.palette 1 1 15 15 ∷ Size 0 0 0 0 0 ∷ []) (passes (65 * texels (quarters c.height)) z (first_pass z c (first_of z i) p)))
      (plain_near numbers 0 (strips_of numbers) (tile7 z (pos 0) ∷ Tile 0 z.fmt z.siz (z.line % 2 ^ 16) 0 z.palette 1 1 15 15 ∷ Size 0 0 0 0 0 ∷ []) (entries_out (passes (65 * texels (quarters c.height)) z (first_pass z c (first_of z i) p))) tt (walk_near p)))

-- ---- the request

scaled_source : (bg : ObjBg) (mode address : ℕ) (c : Clip) (i : Start) → (scaled_of bg mode address c i).source_rows ≡ quarters bg.image_h * 8 / 32
unfolding scaled_of
scaled_source bg mode address c i = refl

pub scaled_scale : (bg : ObjBg) (mode address : ℕ) (c : Clip) (i : Start) → (scaled_of bg mode address c i).scale_h.0 ≡ bg.scale_h.0
unfolding scaled_of
scaled_scale bg mode address c i = refl

pub scaled_frame : (bg : ObjBg) (mode address : ℕ) (c : Clip) (i : Start) → (scaled_of bg mode address c i).frame_rows ≡ (scaled_of bg mode address c i).image_rows * 1048576 / (scaled_of bg mode address c i).scale_h.0
unfolding scaled_of
scaled_frame bg mode address c i = refl

fit_of : (bg : ObjBg) (mode address : ℕ) (c : Clip) (i : Start) (z : Scaled) → z ≡ scaled_of bg mode address c i → i ≡ start_of bg c → 1 ≤ bg.scale_h.0 → quarters bg.image_h % 4 ≡ 0
    → bg.image_y_orig.0 ≤ℤ pos (thirty_seconds bg.image_y + sampled_by (quarters c.top) z.scale_h.0) → 0 < z.source_rows
    → Fit z i (quarters bg.image_h) (thirty_seconds bg.image_y + sampled_by (quarters c.top) z.scale_h.0) (z.image_rows * 1048576 % z.scale_h.0) bg.image_y_orig.0
fit_of bg mode address c i z ez ei o m b s =
    let n : z.source_rows ≡ quarters bg.image_h * 8 / 32 = ap (λ (u : Scaled). u.source_rows) ez ∙ scaled_source bg mode address c i in
    let h : z.scale_h.0 ≡ bg.scale_h.0 = ap (λ (u : Scaled). u.scale_h.0) ez ∙ scaled_scale bg mode address c i in
    let f : z.frame_rows ≡ z.image_rows * 1048576 / z.scale_h.0 = subst (λ (u : Scaled). u.frame_rows ≡ u.image_rows * 1048576 / u.scale_h.0) (sym ez) (scaled_frame bg mode address c i) in
    record {
      rows = omega arith;
      some = s;
      frame = rw f (div-add-mod' (z.image_rows * 1048576) z.scale_h.0);
      frame_rest = mod-lt (z.image_rows * 1048576) (omega arith);
      below = b;
      distance = rw (ei, h) (start_distance bg c);
      first = rw ei (start_origin bg c z.source_rows (omega arith));
    }

pub or_false : (a b : Bool) → (a || b) ≡ false → a ≡ false
or_false true b e = e
or_false false b e = refl

pub positive : (n : ℕ) → eqb n 0 ≡ false → 0 < n
positive zero e = absurd (eqb-false 0 0 e refl)
positive (suc n) e = omega arith

near_if : (d : Drift) (n : ℕ) (ks : List ℤ) (t : Bool) (a b : Out (Unit {0})) → (t ≡ true → AllNear d n ks (entries_out a)) → (t ≡ false → AllNear d n ks (entries_out b)) → AllNear d n ks (entries_out {A = Unit {0}} (elim t [ true ↦ a | false ↦ b ]))
near_if d n ks true a b f g = f refl
near_if d n ks false a b f g = g refl

pub scaled_near : (bg : ObjBg) (q : Request) → 1 ≤ bg.scale_h.0 → quarters bg.image_h % 4 ≡ 0 → bg.image_y_orig.0 ≤ℤ pos (drift_from bg q).start → AllNear (drift_from bg q) 0 (strips_of (drift_from bg q)) (entries_out (scaled_out bg q))
unfolding scaled_out
scaled_near bg q o m b =
    let c = clip_of bg q.scissor in
    let i = start_of bg c in
    let z = scaled_of bg q.mode q.address c i in
    near_if (drift_from bg q) 0 (strips_of (drift_from bg q)) (scaled_empty c) (yield tt) (elim (slices_bad z) [ true ↦ refuse verdict.Slices | false ↦ scaled_plan z c (first_of z i) ]) (λ _. tt) (λ _.
    near_if (drift_from bg q) 0 (strips_of (drift_from bg q)) (slices_bad z) (refuse verdict.Slices) (scaled_plan z c (first_of z i)) (λ _. tt) (λ e.
    plan_near z i c (quarters bg.image_h) (thirty_seconds bg.image_y + sampled_by (quarters c.top) z.scale_h.0) (z.image_rows * 1048576 % z.scale_h.0) bg.image_y_orig.0 (fit_of bg q.mode q.address c i z refl refl o m b (positive z.source_rows (or_false (eqb z.source_rows 0) (eqb z.image_rows 0 || eqb z.stride 0) e)))))

pub drift_is : (q : Request) → drift_of q ≡ drift_from (decode 4 false q.bytes) q
unfolding drift_of
drift_is q = refl

entries_is : (o : Out (Unit {0})) → (plan_out o).entries ≡ entries_out o
entries_is (go es u) = refl
entries_is (stop es l v) = refl

-- ---- the checks: a request of opcode 9 is refused, or goes on with its scaled object

refused_or : (K : Checked → Type 0) → ((v : Verdict) → Refuses v → K (Err v)) → (t : Bool) (v : Verdict) (rest : Checked) → Refuses v → K rest → K (refused_by t v rest)
refused_or K r true v rest n h = r v n
refused_or K r false v rest n h = h

object_scaled : (K : Checked → Type 0) → ((v : Verdict) → Refuses v → K (Err v)) → (bg : ObjBg) → K (Ok (background.Scaled bg)) → K (object_of false bg)
unfolding object_of
object_scaled K r bg h = refused_or K r (any (object_faults bg)) verdict.Object (Ok (background.Scaled bg)) refl h

pub checked_scaled : (K : Checked → Type 0) → ((v : Verdict) → Refuses v → K (Err v)) → (bs : List ℕ) (opcode : ℕ) (s : Scissor) → opcode ≡ 9 → K (Ok (background.Scaled (decode 4 false bs))) → K (checked_of 4 bs opcode s)
unfolding checked_of
checked_scaled K r bs opcode s e h =
    let last = object_of (copies opcode) (decode 4 (copies opcode) bs) in
    let third = refused_by (scissor_bad s) verdict.Scissor last in
    let second = refused_by (short 4 opcode bs) verdict.Short third in
    let scaled : copies opcode ≡ false = ap (λ (n : ℕ). eqb n 10) e in
    refused_or K r (opcode_bad opcode) verdict.Opcode second refl (refused_or K r (short 4 opcode bs) verdict.Short third refl (refused_or K r (scissor_bad s) verdict.Scissor last refl
    (subst (λ (t : Bool). K (object_of t (decode 4 t bs))) (sym scaled) (object_scaled K r (decode 4 false bs) h))))

-- D "A stored scale of 0 is 1"
pub decoded_scale : (bs : List ℕ) → 1 ≤ (decode 4 false bs).scale_h.0
unfolding decode
decoded_scale bs = omega arith

-- a scaled request's outcome, whatever its checks refuse
pub request_near : (q : Request) (d : Drift) (ks : List ℤ) → q.opcode ≡ 9 → AllNear d 0 ks (entries_out (scaled_out (decode 4 false q.bytes) q))
    → AllNear d 0 ks (entries_out (checked_out (checked_of 4 q.bytes q.opcode q.scissor) q))
unfolding checked_out
request_near q d ks e h = checked_scaled (λ (r : Checked). AllNear d 0 ks (entries_out (checked_out r q))) (λ v _. tt) q.bytes q.opcode q.scissor e h

-- demand 3: every scaled request whose image has whole rows and whose start is at or below the origin
pub demand3 : Demand3
unfolding plan_of plan_with
demand3 q a =
    let bg = decode 4 false q.bytes in
    rw (entries_is (checked_out (checked_of 4 q.bytes q.opcode q.scissor) q))
    (request_near q (drift_of q) (strips_of (drift_of q)) a.scaled
    (subst (λ (d : Drift). AllNear d 0 (strips_of d) (entries_out (scaled_out bg q))) (sym (drift_is q)) (scaled_near bg q (decoded_scale q.bytes) (rw (drift_is q) at a.rows) (rw (drift_is q) at a.below))))
