-- One strip row more is verdict 7: the frame as written begins at the image's first column and row, so the first strip is as wide as the picture and one row too high.
-- Assumes nothing.
use Rattle.std.specs.Prelude.{◌≡◌, refl, Bool, true, false, cond, List, [], ◌∷◌, ◌++◌, ℕ, suc, ◌+◌, ◌-◌, ◌*◌, ◌/◌, ◌%◌, ◌^◌, ◌≤◌, ◌<◌, min, ltb, ℤ, pos, ◌+ℤ◌, ◌-ℤ◌}
use Rattle.std.proofs.Common.{ap, ◌∙◌, arith, lt-ltb, ne_eqb, mod-eq_of_lt, mul_comm}
use Rattle.std.specs.Int.Signed.{le_z}
use Rattle.signed.specs.Floor.{modulo}
use Rattle.signed.specs.Diff.{up, zarith}
use Rattle.signed.specs.Cast.{min_z}
use Rattle.object.specs.declared.types.Verdict.TheVariants as verdict
use Rattle.checks.specs.Check.{Checked, scissor_bad}
use Rattle.plan.specs.declared.types.Copy.{Copy}
use Rattle.plan.specs.Out.{Out, ◌>>◌, emit, plan_out}
use Rattle.plan.specs.Out.Out.{stop}
use Rattle.plan.specs.Copy.{copy_capacity, column, copy_of, copy_empty, strip_of, strip_row_of, strip_height_of, copy_plan}
use Rattle.plan.specs.Whole.{copy_out, checked_out, plan_with, plan_of}
use Rattle.strips.specs.Strip.{line_of}
use Rattle.copy.specs.declared.types.Place.{Place}
use Rattle.copy.specs.Walk.{place_at, row_at, image_entry, too_big}
use Rattle.cells.specs.Places.{across, down, places_of, strip_out, strips_out}
use Rattle.cells.proofs.Places.{across_on, down_on, plan_listed}
use Rattle.cells.proofs.Fits.{line_is}
use Rattle.picture.specs.Writer.{picture_of, copy_bytes, strip_rows, taller_of, full, copy_request, written_number, wrote_of}
use Rattle.picture.proofs.Accepted.{Accepted, strip_in}
use Rattle.picture.proofs.Passes.{passes_with}
use Rattle.picture.proofs.Later.{filled}

-- ---- a plan whose first strip is too big

one_more : (n : ℕ) → 1 ≤ n → n ≡ suc (n - 1)
one_more n h = omega arith

down_from : (n : ℕ) (c : Copy) → ltb 0 c.height ≡ true → 1 ≤ n → down n c 0 ≡ across c.width c 0 (strip_row_of c 0) (strip_height_of c 0) 0 ++ down (n - 1) c (0 + strip_height_of c 0)
down_from n c t h = ap (λ (m : ℕ). down m c 0) (one_more n h) ∙ down_on (n - 1) c 0 t

across_from : (n : ℕ) (c : Copy) (y sy h : ℕ) → ltb 0 c.width ≡ true → 1 ≤ n → across n c y sy h 0 ≡ place_at c 0 y sy h ∷ across (n - 1) c y sy h (0 + (strip_of c 0).strip_width)
across_from n c y sy h t k = ap (λ (m : ℕ). across m c y sy h 0) (one_more n k) ∙ across_on (n - 1) c y sy h 0 t

stopped : (p : Place) (ps : List Place) → too_big p ≡ true → strips_out (p ∷ ps) ≡ stop [] [] verdict.TooBig
unfolding strips_out strip_out
stopped p ps t = rw (t, strip_out)

first_too_big : (c : Copy) → 1 ≤ c.width → 1 ≤ c.height → too_big (row_at c 0) ≡ true → copy_plan c ≡ stop (image_entry c ∷ []) [] verdict.TooBig
unfolding places_of
first_too_big c w h t =
    let row = across c.width c 0 (strip_row_of c 0) (strip_height_of c 0) 0 in
    let rest = down (c.height - 1) c (0 + strip_height_of c 0) in
    plan_listed c
    ∙ ap (λ (ps : List Place). emit (image_entry c) >> strips_out ps)
    (down_from c.height c (lt-ltb 0 c.height h) h ∙ ap (λ (ps : List Place). ps ++ rest) (across_from c.width c 0 (strip_row_of c 0) (strip_height_of c 0) (lt-ltb 0 c.width w) w))
    ∙ ap (λ (o : Out (Unit {0})). emit (image_entry c) >> o) (stopped (row_at c 0) _ t)

-- ---- the frame of a picture under the whole screen's scissor

-- a side of at most 1,023 cells from 0 on is not clipped
clipped : (n : ℕ) → n ≤ 1023 → up (min_z (pos 0 +ℤ pos (n * 4)) (pos 4092) -ℤ pos 0) / 4 ≡ n
clipped n k = by (le_z (pos 0 +ℤ pos (n * 4)) (pos 4092)) refl
  where
    by : (t : Bool) → le_z (pos 0 +ℤ pos (n * 4)) (pos 4092) ≡ t → up (cond t (pos 0 +ℤ pos (n * 4)) (pos 4092) -ℤ pos 0) / 4 ≡ n
    by true e = omega arith
    by false e = absurd (omega (zarith, e))

-- the first strip of a frame that starts at the first column
load_of : (c : Copy) → c.flip ≡ false → modulo (column c 0) c.image_width ≡ 0 → (strip_of c 0).load_width ≡ min c.width c.image_width
unfolding strip_of
load_of c t e = rw (e, t) (omega arith)

module _ (w h f z p r : ℕ) (address : ℕ) (a : Accepted w h f z) (few : w ≤ 1023) (low : h ≤ 1023) where
  abbrev c : Copy
  c = copy_of (picture_of w h f z p r) full address

  wide : c.width ≡ w
  unfolding copy_of
  wide = clipped w few

  high : c.height ≡ h
  unfolding copy_of
  high = clipped h low

  columns : c.image_width ≡ w
  unfolding copy_of
  columns = omega arith

  lines : c.image_height ≡ h
  unfolding copy_of
  lines = omega arith

  rows : c.rows ≡ r
  unfolding copy_of
  rows = omega arith

  start : column c 0 ≡ pos 0
  unfolding copy_of
  start = refl

  plain : c.flip ≡ false
  unfolding copy_of
  plain = refl

  top : c.source_y ≡ 0
  unfolding copy_of
  top = refl

  room : c.capacity ≡ copy_capacity f z
  unfolding copy_of
  room = refl

  size : c.siz ≡ z
  unfolding copy_of
  size = refl

  -- ---- its first strip

  first_column : modulo (column c 0) c.image_width ≡ 0
  first_column = ap (λ (v : ℤ). modulo v c.image_width) start ∙ (let l : 0 < c.image_width = omega (arith, columns, a.sized.width) in mod-eq_of_lt l)

  first_load : (strip_of c 0).load_width ≡ w
  first_load = load_of c plain first_column ∙ (let u = wide in let v = columns in omega arith)

  first_row : strip_row_of c 0 ≡ 0
  first_row = ap (λ (n : ℕ). (n + 0) % c.image_height) top ∙ (let l : 0 < c.image_height = omega (arith, lines, a.sized.height) in mod-eq_of_lt l)

  first_height : r ≤ h → strip_height_of c 0 ≡ r
  first_height k = let u = first_row in let v = lines in let x = high in let y = rows in omega arith

  first_line : (strip_of c 0).line ≡ line_of z w
  first_line = line_is c 0 ∙ ap (λ (n : ℕ). line_of n (strip_of c 0).load_width) size ∙ ap (line_of z) first_load

  pub too_high : r ≤ h → copy_capacity f z < line_of z w * r → too_big (row_at c 0) ≡ true
  too_high k m =
      ap (λ (n : ℕ). ltb n ((strip_of c 0).line * strip_height_of c 0)) room
      ∙ ap (λ (n : ℕ). ltb (copy_capacity f z) (n * strip_height_of c 0)) first_line
      ∙ ap (λ (n : ℕ). ltb (copy_capacity f z) (line_of z w * n)) (first_height k)
      ∙ lt-ltb (copy_capacity f z) (line_of z w * r) m

  not_empty : copy_empty c ≡ false
  not_empty = rw (ne_eqb c.width 0 (λ e. omega (arith, wide, a.sized.width)), ne_eqb c.height 0 (λ e. omega (arith, high, a.sized.height))) refl

  pub drawn_too_high : (bytes : List ℕ) (mode : ℕ) → r ≤ h → copy_capacity f z < line_of z w * r → copy_out (picture_of w h f z p r) (copy_request bytes full mode address) ≡ stop (image_entry c ∷ []) [] verdict.TooBig
  unfolding copy_out
  drawn_too_high bytes mode k m = rw (not_empty, copy_out) (first_too_big c (omega (arith, wide, a.sized.width)) (omega (arith, high, a.sized.height)) (too_high k m))

-- D "One strip row more, the product fields following, is verdict 7": after the image entry, whatever stands behind the object
pub one_row_more : (w h f z p : ℕ) (out : List ℕ) → p < 2 ^ 32 → written_number (wrote_of w h f z p out).answer ≡ 0 → w ≤ 1023 → h ≤ 1023 → strip_rows w f z < h → (rest : List ℕ) (mode address : ℕ)
    → plan_of (copy_request (copy_bytes (taller_of w h f z p) ++ rest) full mode address) ≡ record { entries = image_entry (copy_of (taller_of w h f z p) full address) ∷ []; left = []; verdict = verdict.TooBig }
unfolding plan_of plan_with checked_out scissor_bad
one_row_more w h f z p out k e few low taller rest mode address =
    let q = copy_request (copy_bytes (taller_of w h f z p) ++ rest) full mode address in
    let a = (filled w h f z p out e).accepted in
    let s = strip_in w h f z a in
    let r = strip_rows w f z + 1 in
    ap (λ (v : Checked). plan_out (checked_out v q)) (passes_with w h f z p r a (omega arith) (omega arith) k rest full refl)
    ∙ ap plan_out (drawn_too_high w h f z p r address a (omega arith) (omega arith) q.bytes mode (omega arith) (omega (arith, s.more, mul_comm (line_of z w) r)))
