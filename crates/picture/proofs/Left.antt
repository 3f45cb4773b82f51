-- What the writer leaves, by its tests: each refusal, and the object.
-- Assumes nothing.
use Rattle.std.specs.Prelude.{◌≡◌, true, false, List, ◌++◌, ℕ, ◌≤◌, ◌<◌, length, take, drop}
use Rattle.std.proofs.Common.{ap, ◌∙◌, lt-ltb, le-ltb}
use Rattle.std.proofs.lemmas.List.{take-append-drop}
use Rattle.checks.specs.Check.{any}
use Rattle.plan.specs.Copy.{copy_capacity}
use Rattle.strips.specs.Strip.{line_of}
use Rattle.picture.specs.declared.types.Written.TheVariants as written
use Rattle.picture.proofs.Accepted.{picture_is}
use Rattle.picture.specs.Writer.{picture_of, copy_bytes, strip_rows, format_faults, size_faults, wrote, wrote_of}

-- the buffer's first bytes put back where they were
pub put_back : {o out : List ℕ} → o ≡ take 40 out → o ++ drop 40 out ≡ out
put_back {o} {out} e = ap (λ (xs : List ℕ). xs ++ drop 40 out) e ∙ take-append-drop 40 out

module _ (w h f z p : ℕ) (out : List ℕ) where
  pub left_short : length out < 40 → wrote written.Short out ≡ wrote_of w h f z p out
  unfolding wrote_of
  left_short k = rw (lt-ltb (length out) 40 k)

  module _ (long : 40 ≤ length out) where
    pub left_format : any (format_faults f z) ≡ true → wrote written.Object out ≡ wrote_of w h f z p out
    unfolding wrote_of
    left_format t = rw (le-ltb (length out) 40 long, t)

    module _ (t : any (format_faults f z) ≡ false) where
      pub left_size : any (size_faults w h) ≡ true → wrote written.Picture out ≡ wrote_of w h f z p out
      unfolding wrote_of
      left_size u = rw (le-ltb (length out) 40 long, t, picture_is w h f z, u)

      module _ (u : any (size_faults w h) ≡ false) where
        pub left_line : copy_capacity f z < line_of z w → wrote written.Picture out ≡ wrote_of w h f z p out
        unfolding wrote_of
        left_line k = rw (le-ltb (length out) 40 long, t, picture_is w h f z, u, lt-ltb (copy_capacity f z) (line_of z w) k)

        pub left_done : line_of z w ≤ copy_capacity f z → wrote written.Done (copy_bytes (picture_of w h f z p (strip_rows w f z)) ++ drop 40 out) ≡ wrote_of w h f z p out
        unfolding wrote_of
        left_done k = rw (le-ltb (length out) 40 long, t, picture_is w h f z, u, le-ltb (copy_capacity f z) (line_of z w) k)
