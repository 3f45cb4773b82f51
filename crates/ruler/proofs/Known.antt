-- What measures a request's plan: its ranges, demand 3's numbers, and the plans that have nothing to measure.
-- Assumes nothing.
use Rattle.std.specs.Prelude.{Result, Ok, Err, Option, Some, None}
use Rattle.std.specs.Result.{result_ok}
use Rattle.std.proofs.Common.{◌≡◌, refl, sym, ap, ◌∙◌, Bool, true, false, cond, not, ◌&&◌, List, [], ℕ, ◌+◌, ◌-◌, ◌*◌, ◌/◌, ◌^◌, ◌≤◌, ◌<◌, arith, mul-le-mul, mul-le-mul_right, le-div_iff_mul-le, eqb, ℤ, pos, neg_ℤ, ◌-ℤ◌, ◌*ℤ◌, ◌≤ℤ◌, SFits}
use Rattle.std.specs.Int.{w64}
use borrow.Author.Tests.{eqb-true}
use Rattle.signed.specs.Diff.{up, dn, zdiff, zarith}
use Rattle.signed.specs.Floor.{floor_div, parts}
use Rattle.measures.specs.Measure.{quarters, in_image, whole_texels, lines_at, of_position, of_lines, whole}
use Rattle.measures.specs.Range.{Below, Within}
use Rattle.object.specs.declared.types.ObjBg.{ObjBg}
use Rattle.object.specs.declared.types.Scissor.{Scissor}
use Rattle.object.specs.declared.types.Background.{Background}
use Rattle.object.specs.declared.types.Background.TheVariants as background
use Rattle.object.specs.declared.types.Verdict.{Verdict}
use Rattle.object.specs.declared.types.Verdict.TheVariants as verdict
use Rattle.object.specs.Layout.{decode}
use Rattle.checks.specs.Check.{short, scissor_bad, any, object_faults, copy_faults, refused_by, object_of, checked_of}
use Rattle.checks.specs.Known.{PassedScaled}
use Rattle.checks.proofs.Passed.{checked_scaled_is}
use Rattle.plan.specs.declared.types.Clip.{Clip}
use Rattle.plan.specs.declared.types.Start.{Start}
use Rattle.plan.specs.declared.types.Scaled.{Scaled}
use Rattle.plan.specs.declared.types.First.{First}
use Rattle.plan.specs.Request.{Request}
use Rattle.plan.specs.Out.{yield, refuse, plan_out}
use Rattle.plan.specs.Scaled.{clip_of, scaled_empty, start_of, scaled_of, slices_bad, first_of, scaled_plan}
use Rattle.plan.specs.Sound.{SoundScaled, SoundFirst}
use Rattle.plan.specs.Whole.{scaled_out, checked_out, plan_with, plan_of}
use Rattle.plan.specs.Demand.{drift_of, strips_of, aheads}
use Rattle.scaled.specs.Range.{Usable, Filled, StartIn}
use Rattle.first.specs.Near.{Near}
use Rattle.setup.specs.declared.parts.SetUp.{SetUp}
use Rattle.setup.specs.Parts.{parts_of, set_up_of, PartsAre}
use Rattle.small.specs.SmallPlans.{scaled_small}
use Rattle.ruler.specs.declared.types.Ruler.{Ruler}
use Rattle.ruler.specs.Ruler.{SoundRuler}
use Rattle.ruler.specs.Drifts.{drifts_of, scaled_set, set_up, ruler_from, strips_at, first_at, ruler_of, MadeIn, RulerScaled, FoundScaled, RulerIs, FoundIs}
use Rattle.ruler.proofs.Ranges.{quotient_in, scaled_parts}

-- ---- ranges

-- the distance from the origin, in 1,024ths of a line
offset_in : (y o : ℤ) (h : ℕ) → 1 ≤ h → Below 20 y → neg_ℤ (pos (2 ^ 33)) ≤ℤ o → o ≤ℤ pos (2 ^ 33) → (up (of_lines (floor_div (of_position (y -ℤ o)) h)) ≤ 2 ^ 48 + 2 ^ 36) × (dn (of_lines (floor_div (of_position (y -ℤ o)) h)) ≤ 2 ^ 48 + 2 ^ 36)
offset_in y o h l b m n =
    let x = of_position (y -ℤ o) in
    let hi : x ≤ℤ pos (2 ^ 38 + 2 ^ 26) = simp zdiff (omega (zarith, b.high)) in
    let lo : neg_ℤ (pos (2 ^ 38 + 2 ^ 26)) ≤ℤ x = simp zdiff (omega (zarith, b.low)) in
    by x hi lo
  where
    by : (x : ℤ) → x ≤ℤ pos (2 ^ 38 + 2 ^ 26) → neg_ℤ (pos (2 ^ 38 + 2 ^ 26)) ≤ℤ x → (up (of_lines (floor_div x h)) ≤ 2 ^ 48 + 2 ^ 36) × (dn (of_lines (floor_div x h)) ≤ 2 ^ 48 + 2 ^ 36)
    by x hi lo =
        let p = parts x h l in
        let hi' : of_lines (floor_div x h) ≤ℤ pos (2 ^ 48 + 2 ^ 36) = simp zdiff (omega zarith) in
        let lo' : neg_ℤ (pos (2 ^ 48 + 2 ^ 36)) ≤ℤ of_lines (floor_div x h) = simp zdiff (omega zarith) in
        (omega zarith, omega zarith)

-- a strip's number, and its rows: a strip has at least 16 1,024ths of a line for each of its rows
slice_in : (e : ℤ) (f rows : ℕ) → 16 ≤ f → f ≤ 2 ^ 29 → 16 * rows ≤ f → (up e ≤ 2 ^ 48 + 2 ^ 36) × (dn e ≤ 2 ^ 48 + 2 ^ 36) → Within 45 (floor_div e f) × Within 45 (pos rows *ℤ floor_div e f)
slice_in e f rows l u r b = by (floor_div e f) (quotient_in e f)
  where
    by : (k : ℤ) → (up k * f ≤ up e) × (dn k * f ≤ dn e + f) → Within 45 k × Within 45 (pos rows *ℤ k)
    by k q =
        let a = mul-le-mul_right (up k) l in
        let d = mul-le-mul_right (dn k) l in
        let v = mul-le-mul_right (up k) r in
        let w = mul-le-mul_right (dn k) r in
        let p = scaled_parts rows k in
        (record { low = omega (zarith, q.1); high = omega (zarith, q.0) }, record { low = omega (zarith, q.1, p.0, p.1); high = omega (zarith, q.0, p.0, p.1) })

frame_least : (rows h : ℕ) → 1 ≤ h → h ≤ 65535 → 16 * rows ≤ rows * 2 ^ 20 / h
frame_least rows h l u = (le-div_iff_mul-le l).1 (let m = mul-le-mul_right (16 * rows) u in omega arith)

module _ (z : Scaled) (i : Start) (v : SoundScaled z) (n : Near i) (f : z.frame_rows ≡ lines_at z.image_rows z.scale_h.0) where
  pub first_slice : Within 45 (first_of z i).slice × Within 45 (pos z.image_rows *ℤ (first_of z i).slice)
  unfolding first_of
  first_slice = slice_in (of_lines (floor_div (of_position (i.image_y.0 -ℤ i.origin.0)) z.scale_h.0)) z.frame_rows z.image_rows v.frame_rows v.frame_rows' (rw f (frame_least z.image_rows z.scale_h.0 v.scale_h v.scale_h')) (offset_in i.image_y.0 i.origin.0 z.scale_h.0 v.scale_h n.image_y n.origin.low n.origin.high)

pub below_up : (k : ℕ) (z : ℤ) → Below k z → up z ≤ 2 ^ k - 1
below_up k z b = omega (zarith, b.high)

-- what the parts of a scaled plan tell of each other
pub strip_rows : (bg : ObjBg) (mode address : ℕ) (c : Clip) (i : Start) → ((scaled_of bg mode address c i).frame_rows ≡ lines_at (scaled_of bg mode address c i).image_rows (scaled_of bg mode address c i).scale_h.0) × ((scaled_of bg mode address c i).source_rows ≡ whole_texels (in_image (quarters bg.image_h)))
unfolding scaled_of
strip_rows bg mode address c i = (refl, refl)

module _ (bg : ObjBg) (c : Clip) (i : Start) (z : Scaled) (f : First) (u : Usable bg) (d : Filled c) (n : StartIn bg i) (v : SoundScaled z) (w : SoundFirst z f)
    (s : Within 45 f.slice) (t : Within 45 (pos z.image_rows *ℤ f.slice)) (e : z.source_rows ≡ whole_texels (in_image (quarters bg.image_h))) where
  ruler_sound : SoundRuler (ruler_from bg c i z f)
  ruler_sound =
      let y = below_up 16 bg.image_y.0 u.range.image_y in
      let top = below_up 16 c.top.0 d.top in
      let h = below_up 12 c.height.0 d.height' in
      let p = mul-le-mul top v.scale_h' in
      let lo = w.slice_rows in
      let hi = w.slice_rows' in
      record {
        h = v.scale_h';
        image_h = rw e (omega arith);
        source_rows = v.source_rows;
        source_rows' = v.source_rows';
        image_rows = v.image_rows';
        frame_rows = v.frame_rows';
        first_rows = record { low = simp zdiff (omega (zarith, v.image_rows')); high = simp zdiff (omega (zarith, v.image_rows')) };
        carry = n.carry;
        slice = s;
        top = t;
        count = omega (zarith, w.count);
        count' = omega (zarith, w.count');
        lines = omega arith;
        start = omega arith;
        origin = u.range.image_y_orig;
      }

  pub made_in : MadeIn bg c i z f
  made_in = record { image_y = u.range.image_y; top = d.top; first = w; sound = ruler_sound }

module _ {bg : ObjBg} {c : Clip} {i : Start} {z : Scaled} {f : First} (m : MadeIn bg c i z f) where
  pub rows_fit : SFits w64 f.slice_rows
  rows_fit = omega (zarith, m.first.slice_rows, m.first.slice_rows')

  pub count_fits : SFits w64 f.count
  count_fits = omega (zarith, m.first.count, m.first.count')

-- ---- demand 3's numbers

hidden_rows : (n : ℕ) (x : ℤ) → pos n -ℤ (pos n -ℤ x) ≡ x
hidden_rows n x = simp zdiff (omega zarith)

drift_parts : (q : Request) → ruler_of (decode 4 false q.bytes) q.scissor q.mode q.address ≡ drift_of q
unfolding drift_of first_of
drift_parts q =
    let bg = decode 4 false q.bytes in
    let c = clip_of bg q.scissor in
    let i = start_of bg c in
    let z = scaled_of bg q.mode q.address c i in
    λ j. record (ruler_of bg q.scissor q.mode q.address) { first_rows = hidden_rows z.image_rows (whole (first_of z i).image_hidden) j }

-- ---- plans with nothing to measure

drifts_none : (q : Request) → (plan_of q).entries ≡ [] → drifts_of q ≡ []
unfolding drifts_of aheads
drifts_none q e = rw e (by (eqb q.opcode 9))
  where
    by : (t : Bool) → cond t (aheads (drift_of q) 0 (strips_of (drift_of q)) []) [] ≡ []
    by true = refl
    by false = refl

pub nothing_refused : (q : Request) (r : Result Background Verdict) → checked_of 4 q.bytes q.opcode q.scissor ≡ r → result_ok r ≡ None → FoundIs q None
unfolding set_up plan_of plan_with checked_out
nothing_refused q (Err v) e n = (rw e, drifts_none q (rw e))
nothing_refused q (Ok b) e n = cc

no_copy : (a b c : Bool) (bg bg' : ObjBg) → refused_by a verdict.Short (refused_by b verdict.Scissor (refused_by c verdict.Object (Ok (background.Scaled bg)))) ≡ Ok (background.Copy bg') → ⊥
no_copy true b c bg bg' e = let z : ◌≡◌ {A = ℕ} 0 1 = cc in omega arith
no_copy false true c bg bg' e = let z : ◌≡◌ {A = ℕ} 0 1 = cc in omega arith
no_copy false false true bg bg' e = let z : ◌≡◌ {A = ℕ} 0 1 = cc in omega arith
no_copy false false false bg bg' e = let z : ◌≡◌ {A = ℕ} 0 1 = cc in omega arith

no_scaled : (a b c d : Bool) (bg bg' : ObjBg) → refused_by a verdict.Short (refused_by b verdict.Scissor (refused_by c verdict.Object (refused_by d verdict.Copy (Ok (background.Copy bg))))) ≡ Ok (background.Scaled bg') → ⊥
no_scaled true b c d bg bg' e = let z : ◌≡◌ {A = ℕ} 0 1 = cc in omega arith
no_scaled false true c d bg bg' e = let z : ◌≡◌ {A = ℕ} 0 1 = cc in omega arith
no_scaled false false true d bg bg' e = let z : ◌≡◌ {A = ℕ} 0 1 = cc in omega arith
no_scaled false false false true bg bg' e = let z : ◌≡◌ {A = ℕ} 0 1 = cc in omega arith
no_scaled false false false false bg bg' e = let z : ◌≡◌ {A = ℕ} 0 1 = cc in omega arith

nine : (bs : List ℕ) (s : Scissor) (bg : ObjBg) → checked_of 4 bs 9 s ≡ Ok (background.Copy bg) → ⊥
unfolding checked_of object_of
nine bs s bg e = no_copy (short 4 9 bs) (scissor_bad s) (any (object_faults (decode 4 false bs))) (decode 4 false bs) bg e

copied_opcode : (bs : List ℕ) (opcode : ℕ) (s : Scissor) (bg : ObjBg) → checked_of 4 bs opcode s ≡ Ok (background.Copy bg) → eqb opcode 9 ≡ false
copied_opcode bs opcode s bg e = by (eqb opcode 9) refl
  where
    by : (t : Bool) → eqb opcode 9 ≡ t → eqb opcode 9 ≡ false
    by false t = t
    by true t = absurd (nine bs s bg (ap (λ (n : ℕ). checked_of 4 bs n s) (sym (eqb-true opcode 9 t)) ∙ e))

ten : (bs : List ℕ) (s : Scissor) (bg : ObjBg) → checked_of 4 bs 10 s ≡ Ok (background.Scaled bg) → ⊥
unfolding checked_of object_of
ten bs s bg e = no_scaled (short 4 10 bs) (scissor_bad s) (any (object_faults (decode 4 true bs))) (any (copy_faults (decode 4 true bs))) (decode 4 true bs) bg e

other : (bs : List ℕ) (opcode : ℕ) (s : Scissor) → eqb opcode 9 ≡ false → eqb opcode 10 ≡ false → checked_of 4 bs opcode s ≡ Err verdict.Opcode
unfolding checked_of
other bs opcode s a b = rw (a, b)

scaled_opcode : (bs : List ℕ) (opcode : ℕ) (s : Scissor) (bg : ObjBg) → checked_of 4 bs opcode s ≡ Ok (background.Scaled bg) → opcode ≡ 9
scaled_opcode bs opcode s bg e = by (eqb opcode 9) (eqb opcode 10) refl refl
  where
    by : (t u : Bool) → eqb opcode 9 ≡ t → eqb opcode 10 ≡ u → opcode ≡ 9
    by true u a b = eqb-true opcode 9 a
    by false true a b = absurd (ten bs s bg (ap (λ (n : ℕ). checked_of 4 bs n s) (sym (eqb-true opcode 10 b)) ∙ e))
    by false false a b = let z : ◌≡◌ {A = ℕ} 0 1 = cc (other bs opcode s a b) in absurd (omega arith)

pub nothing_copied : (q : Request) (bg : ObjBg) → checked_of 4 q.bytes q.opcode q.scissor ≡ Ok (background.Copy bg) → FoundIs q None
unfolding set_up drifts_of
nothing_copied q bg e = (rw e, rw (copied_opcode q.bytes q.opcode q.scissor bg e))

-- ---- scaled plans

not_empty : (bg : ObjBg) (s : Scissor) (mode address : ℕ) → scaled_empty (clip_of bg s) ≡ false → slices_bad (scaled_of bg mode address (clip_of bg s) (start_of bg (clip_of bg s))) ≡ false → scaled_set bg s mode address ≡ true
unfolding scaled_set
not_empty bg s mode address a b = rw (a, b)

pub set_none : (bg : ObjBg) (s : Scissor) (mode address : ℕ) (r : Result SetUp Verdict) → r ≡ set_up_of bg s mode address → result_ok r ≡ None → scaled_set bg s mode address ≡ false
unfolding scaled_set set_up_of
set_none bg s mode address r e n = by (scaled_empty p.clip) (slices_bad p.scaled) (ap result_ok (sym e) ∙ n)
  where
    p : SetUp
    p = parts_of bg s mode address

    by : (t u : Bool) → result_ok (cond t (Err verdict.Finished) (cond u (Err verdict.Slices) (Ok p))) ≡ None → (not t && not u) ≡ false
    by true u n = refl
    by false true n = refl
    by false false n = let z : ◌≡◌ {A = ℕ} 0 1 = cc in absurd (omega arith)

no_entries : (bg : ObjBg) (q : Request) → scaled_set bg q.scissor q.mode q.address ≡ false → (plan_out (scaled_out bg q)).entries ≡ []
unfolding scaled_set scaled_out
no_entries bg q e = by (scaled_empty (clip_of bg q.scissor)) (slices_bad z) e
  where
    z : Scaled
    z = scaled_of bg q.mode q.address (clip_of bg q.scissor) (start_of bg (clip_of bg q.scissor))

    by : (t u : Bool) → (not t && not u) ≡ false → (plan_out (elim t [ true ↦ yield tt | false ↦ elim u [ true ↦ refuse verdict.Slices | false ↦ scaled_plan z (clip_of bg q.scissor) (first_of z (start_of bg (clip_of bg q.scissor))) ] ])).entries ≡ []
    by true u e = refl
    by false true e = refl
    by false false e = let n : ◌≡◌ {A = ℕ} 0 1 = cc in absurd (omega arith)

pub near : {bg : ObjBg} {i : Start} → StartIn bg i → Near i
near s = record { image_y = s.image_y; origin = s.origin }

module _ {bg : ObjBg} {s : Scissor} {mode address : ℕ} {p : SetUp} (h : PartsAre bg s mode address p) where
  strip_slice : Within 45 p.first.slice × Within 45 (pos p.scaled.image_rows *ℤ p.first.slice)
  strip_slice =
      let rows = rw (sym h.scaled.is) at (strip_rows bg mode address p.clip p.start).0 in
      rw (sym h.first.is) at (first_slice p.scaled p.start (h.scaled.sound h.good) (near h.start.inside) rows)

  pub set_made : MadeIn bg p.clip p.start p.scaled p.first
  set_made =
      let k = strip_slice in
      made_in bg p.clip p.start p.scaled p.first h.usable (h.clip.filled h.filled) h.start.inside (h.scaled.sound h.good) h.first.sound k.0 k.1 (rw (sym h.scaled.is) at (strip_rows bg mode address p.clip p.start).1)

  pub set_is : (r : Ruler) → r ≡ ruler_from bg p.clip p.start p.scaled p.first → RulerScaled bg s mode address r
  set_is r e =
      let ic = h.clip.is in
      let ii : p.start ≡ start_of bg (clip_of bg s) = h.start.is ∙ ap (start_of bg) ic in
      let iz : p.scaled ≡ strips_at bg s mode address = h.scaled.is ∙ (λ j. scaled_of bg mode address (ic j) (ii j)) in
      let first : p.first ≡ first_at bg s mode address = h.first.is ∙ (λ j. first_of (iz j) (ii j)) in
      record {
        set = not_empty bg s mode address (rw ic at h.filled) (rw iz at h.good);
        is = e ∙ (λ j. ruler_from bg (ic j) (ii j) (iz j) (first j));
        sound = rw e set_made.sound;
      }

module _ (q : Request) (bg : ObjBg) (e : checked_of 4 q.bytes q.opcode q.scissor ≡ Ok (background.Scaled bg)) where
  found_nothing : scaled_set bg q.scissor q.mode q.address ≡ false → FoundIs q None
  unfolding set_up plan_of plan_with checked_out
  found_nothing n = (rw e n, drifts_none q (rw e (no_entries bg q n)))

  set_up_lem : scaled_set bg q.scissor q.mode q.address ≡ true → set_up q ≡ true
  unfolding set_up
  set_up_lem n = rw e n

  found_is : (r : Ruler) → PassedScaled bg q.scissor → q.address < 2 ^ 64 → FoundScaled bg q.scissor q.mode q.address (Some r) → RulerIs q r
  found_is r p a f =
      let b = checked_scaled_is 4 q.bytes q.opcode q.scissor bg e in
      record {
        set = set_up_lem f.set;
        opcode = scaled_opcode q.bytes q.opcode q.scissor bg e;
        is = f.is ∙ ap (λ (o : ObjBg). ruler_of o q.scissor q.mode q.address) b ∙ drift_parts q;
        sound = f.sound;
        small = scaled_small q bg e p a;
      }

  pub found_scaled : PassedScaled bg q.scissor → q.address < 2 ^ 64 → (r : Option Ruler) → FoundScaled bg q.scissor q.mode q.address r → FoundIs q r
  found_scaled p a (Some r) f = found_is r p a f
  found_scaled p a None f = found_nothing f
