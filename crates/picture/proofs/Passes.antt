-- The object of a picture that is not refused passes the checks, with as many rows in a strip as the capacity holds, or one more.
-- Assumes nothing.
use Rattle.std.specs.Prelude.{◌≡◌, refl, Ok, false, not, ◌||◌, List, ◌++◌, ℕ, ◌+◌, ◌*◌, ◌/◌, ◌%◌, ◌^◌, ◌≤◌, ◌<◌, ltb, eqb}
use Rattle.std.proofs.Common.{arith, ne_eqb, eq-eqb, le-ltb, div-add-mod', mul-le-mul_right}
use Rattle.object.specs.declared.types.ObjBg.{ObjBg}
use Rattle.object.specs.declared.types.Scissor.{Scissor}
use Rattle.object.specs.declared.types.Background.TheVariants as background
use Rattle.checks.specs.Check.{any, scissor_bad, object_faults, copy_faults, object_of, checked_of}
use Rattle.plan.specs.Copy.{copy_capacity}
use Rattle.strips.specs.Strip.{line_of}
use Rattle.picture.specs.Writer.{picture_of, copy_bytes, strip_rows}
use Rattle.picture.specs.Parts.{Fits}
use Rattle.picture.proofs.Accepted.{Accepted, strip_in}
use Rattle.picture.proofs.Bytes.{whole, decode_bytes}

fewer : (c l r s : ℕ) → r * l ≤ (s + 1) * l → s * l ≤ c → l ≤ c → c ≤ 512 → r * 4 * l < 2 ^ 32
fewer c l r s x y u v = omega arith

module _ (w h f z p r : ℕ) (a : Accepted w h f z) (one : 1 ≤ r) (few : r ≤ strip_rows w f z + 1) where
  pub fits : Fits w h (line_of z w) r
  fits =
      let s = a.sized in
      let t = strip_in w h f z a in
      record {
        width = s.width';
        height = s.height';
        line = omega (arith, a.line, t.capacity);
        rows = omega (arith, t.rows');
        product = fewer (copy_capacity f z) (line_of z w) r (strip_rows w f z) (mul-le-mul_right (line_of z w) few) (omega (arith, t.product)) a.line t.capacity;
      }

  abbrev bg : ObjBg
  bg = picture_of w h f z p r

  no_object_fault : any (object_faults bg) ≡ false
  unfolding object_faults
  no_object_fault =
      let s = a.sized in
      rw (ne_eqb (w * 4) 0 (λ e. omega (arith, s.width)), ne_eqb (h * 4) 0 (λ e. omega (arith, s.height)), le-ltb 3 z s.siz, le-ltb 4 f s.fmt) refl

  no_copy_fault : any (copy_faults bg) ≡ false
  unfolding copy_faults
  no_copy_fault = by (r * 4) (line_of z w) (omega arith) (strip_in w h f z a).line
    where
      by : (th l : ℕ) → 4 ≤ th → 1 ≤ l → (ltb th 4 || (ltb (w * 4) 4 || (ltb (h * 4) 4 || (eqb l 0 || (not (eqb (th * l / 65536 * 65536 + th * l % 65536) (th * l)) || false))))) ≡ false
      by th l k m =
          let s = a.sized in
          rw (le-ltb th 4 k, le-ltb (w * 4) 4 (omega (arith, s.width)), le-ltb (h * 4) 4 (omega (arith, s.height)), ne_eqb l 0 (λ e. omega arith), eq-eqb (th * l / 65536 * 65536 + th * l % 65536) (th * l) (div-add-mod' (th * l) 65536)) refl

  -- under every scissor that is no refusal itself
  pub passes_with : p < 2 ^ 32 → (rest : List ℕ) (s : Scissor) → scissor_bad s ≡ false → checked_of 4 (copy_bytes bg ++ rest) 10 s ≡ Ok (background.Copy bg)
  unfolding checked_of object_of
  passes_with k rest s e = rw (whole w h f z p (line_of z w) r rest, e, decode_bytes w h f z p (line_of z w) r rest fits k, no_object_fault, no_copy_fault) refl
