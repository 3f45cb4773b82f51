-- Of a buffer that the writer has filled: its bytes decode to the fields, the object passes the checks, and no later object on its picture is verdict 7.
-- Assumes nothing.
use Rattle.std.specs.Prelude.{◌≡◌, refl, Ok, Bool, true, false, cond, List, ◌++◌, ℕ, ◌*◌, ◌/◌, ◌^◌, ◌<◌, ltb, eqb, length, drop}
use Rattle.std.proofs.Common.{sym, subst, ◌∙◌, arith, ltb-false}
use Rattle.signed.specs.Bound.{or_false}
use Rattle.object.specs.declared.types.Scissor.{Scissor}
use Rattle.object.specs.declared.types.Background.TheVariants as background
use Rattle.object.specs.Layout.{decode, Bytes}
use Rattle.checks.specs.Check.{verdict_number, any, scissor_bad, checked_of}
use Rattle.plan.specs.Request.{Request}
use Rattle.plan.specs.Copy.{copy_capacity}
use Rattle.plan.specs.Whole.{plan_of}
use Rattle.strips.specs.Strip.{line_of}
use Rattle.cells.specs.Course.{object_in}
use Rattle.cells.proofs.Fits.{never_7}
use Rattle.picture.specs.declared.types.Written.TheVariants as written
use Rattle.picture.specs.Writer.{picture_of, copy_bytes, strip_rows, format_faults, size_faults, picture_faults, Wrote, wrote, wrote_of, written_number, SamePicture}
use Rattle.picture.proofs.Accepted.{picture_is, Accepted, sized, strip_in}
use Rattle.picture.proofs.Bytes.{decode_bytes}
use Rattle.picture.proofs.Passes.{fits, passes_with}

-- ---- what answer 0 says

pub record Filled (w h f z p : ℕ) (out : List ℕ) (r : Wrote) : Type 0 where
  pub accepted : Accepted w h f z
  pub is : r.out ≡ copy_bytes (picture_of w h f z p (strip_rows w f z)) ++ drop 40 out

pub filled : (w h f z p : ℕ) (out : List ℕ) → written_number (wrote_of w h f z p out).answer ≡ 0 → Filled w h f z p out (wrote_of w h f z p out)
unfolding wrote_of
filled w h f z p out e = by (ltb (length out) 40) (any (format_faults f z)) (any (picture_faults w h f z)) refl refl e
  where
    left : Bool → Bool → Bool → Wrote
    left a b c = cond a (wrote written.Short out) (cond b (wrote written.Object out) (cond c (wrote written.Picture out) (wrote written.Done (copy_bytes (picture_of w h f z p (strip_rows w f z)) ++ drop 40 out))))

    by : (a b c : Bool) → any (format_faults f z) ≡ b → any (picture_faults w h f z) ≡ c → written_number (left a b c).answer ≡ 0 → Filled w h f z p out (left a b c)
    by true b c t u e = absurd (omega arith)
    by false true c t u e = absurd (omega arith)
    by false false true t u e = absurd (omega arith)
    by false false false t u e =
        let v = or_false (any (size_faults w h)) (ltb (copy_capacity f z) (line_of z w)) (sym (picture_is w h f z) ∙ u) in
        record { accepted = record { sized = sized w h f z t v.0; line = ltb-false (copy_capacity f z) (line_of z w) v.1 }; is = refl }

-- ---- and what comes of it

module _ (w h f z p : ℕ) (out : List ℕ) (k : p < 2 ^ 32) (e : written_number (wrote_of w h f z p out).answer ≡ 0) where
  -- D "Decoding the written bytes gives the fields back", whatever stands behind them
  pub written_back : decode 4 true (wrote_of w h f z p out).out ≡ picture_of w h f z p (strip_rows w f z)
  written_back =
      let d = filled w h f z p out e in
      let s = strip_in w h f z d.accepted in
      rw d.is (decode_bytes w h f z p (line_of z w) (strip_rows w f z) (drop 40 out) (fits w h f z p (strip_rows w f z) d.accepted s.rows (omega arith)) k)

  -- the object is refused by no check
  pub passes : (s : Scissor) → scissor_bad s ≡ false → checked_of 4 (wrote_of w h f z p out).out 10 s ≡ Ok (background.Copy (picture_of w h f z p (strip_rows w f z)))
  passes s b =
      let d = filled w h f z p out e in
      let t = strip_in w h f z d.accepted in
      rw d.is (passes_with w h f z p (strip_rows w f z) d.accepted t.rows (omega arith) k (drop 40 out) s b)

  -- D "For every later choice of frame, start and flip 0 or 1 on that picture the plan is never verdict 7", under every scissor, mode and address
  pub later_never_7 : (q : Request) → q.opcode ≡ 10 → Bytes q.bytes → SamePicture (object_in 4 q) (decode 4 true (wrote_of w h f z p out).out) → eqb (verdict_number (plan_of q).verdict) 7 ≡ false
  unfolding plan_of
  later_never_7 q o b m =
      let d = filled w h f z p out e in
      let s : SamePicture (object_in 4 q) (picture_of w h f z p (strip_rows w f z)) = subst (λ bg. SamePicture (object_in 4 q) bg) written_back m in
      never_7 4 q o b (rw (s.tmem_h, s.image_siz, s.image_w, s.image_fmt, whole w, whole (strip_rows w f z)) (strip_in w h f z d.accepted).product)
    where
      whole : (n : ℕ) → n * 4 / 4 ≡ n
      whole n = omega arith
