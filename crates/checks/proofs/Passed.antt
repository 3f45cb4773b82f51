-- The laws of the checks, for callers: what is known of a decoded object, and of a request that passed.
-- Assumes nothing.
use Rattle.std.specs.Prelude.{◌≡◌, refl, Result, Ok, Err, Some, None, Bool, true, false, cond, List, [], ◌∷◌, ℕ, ◌+◌, ◌≤◌, ◌<◌, max, ltb, length, ℤ, pos}
use Rattle.std.proofs.Common.{sym, subst, arith, ltb-false, to_z}
use Rattle.std.specs.Int.Signed.{lt_z}
use Rattle.std.specs.Int.{w16, w32}
use mir.ValLaws.{to_z-Fits}
use Rattle.signed.specs.Bound.{or_false, some}
use Rattle.signed.specs.Diff.{zarith}
use Rattle.object.specs.declared.types.ObjBg.{ObjBg}
use Rattle.object.specs.declared.types.Scissor.{Scissor}
use Rattle.object.specs.declared.types.Verdict.{Verdict}
use Rattle.object.specs.declared.types.Verdict.TheVariants as verdict
use Rattle.object.specs.declared.types.Background.TheVariants as background
use Rattle.object.specs.Layout.{size_of, layout, value_of, decode, decoded_by, decoded_of, Bytes}
use Rattle.object.specs.Reads.{read_below}
use Rattle.checks.specs.Check.{Checked, any, edge_bad, scissor_bad, object_faults, copy_faults, opcode_bad, copies, kind_of, short, refused_by, object_of, checked_of}
use Rattle.measures.specs.Range.{Below, Within}
use Rattle.checks.specs.Known.{InRange, EdgesIn, Passed, PassedCopy, PassedScaled, KnownOf, CheckedIs}

-- ---- the ranges of the fields

below16 : (n : ℕ) → n < 65536 → Below 16 (pos n)
below16 n h = record { low = omega zarith; high = omega zarith }

within15 : (n : ℕ) → n < 65536 → Within 15 (to_z w16 n)
within15 n h = let f = to_z-Fits w16 n (record { fits = h }) in record { low = omega zarith; high = omega zarith }

within31 : (n : ℕ) → n < 4294967296 → Within 31 (to_z w32 n)
within31 n h = let f = to_z-Fits w32 n (record { fits = h }) in record { low = omega zarith; high = omega zarith }

scale_range : (copy : Bool) (n : ℕ) → n < 65536 → cond copy 0 (max 1 n) ≤ 65535
scale_range true n h = omega arith
scale_range false n h = omega arith

origin_range : (copy : Bool) (n : ℕ) → n < 4294967296 → Within 31 (cond copy (pos 0) (to_z w32 n))
origin_range true n h = record { low = omega zarith; high = omega zarith }
origin_range false n h = within31 n h

pub decode_range : (p : ℕ) (copy : Bool) (bs : List ℕ) → Bytes bs → InRange (decode p copy bs)
unfolding decode value_of layout
decode_range p copy bs h = record {
  image_x = below16 _ (read_below bs 0 2 h);
  image_w = below16 _ (read_below bs 2 2 h);
  frame_x = within15 _ (read_below bs 4 2 h);
  frame_w = below16 _ (read_below bs 6 2 h);
  image_y = below16 _ (read_below bs 8 2 h);
  image_h = below16 _ (read_below bs 10 2 h);
  frame_y = within15 _ (read_below bs 12 2 h);
  frame_h = below16 _ (read_below bs 14 2 h);
  scale_w = scale_range copy _ (read_below bs (24 + p) 2 h);
  scale_h = scale_range copy _ (read_below bs (26 + p) 2 h);
  image_y_orig = origin_range copy _ (read_below bs (28 + p) 4 h);
}

-- ---- a row of conditions of which none holds

abbrev Falses : List Bool → Type 0
Falses [] = Unit {0}
Falses (t ∷ ts) = (t ≡ false) × Falses ts

falses : (ts : List Bool) → any ts ≡ false → Falses ts
falses [] e = tt
falses (t ∷ ts) e = let h = or_false t (any ts) e in (h.0, falses ts h.1)

-- ---- the checks

-- what holds of each refusal, and of what comes after a check, holds of both together
refused_or : (K : Checked → Type 0) → ((v : Verdict) → K (Err v)) → (t : Bool) (v : Verdict) (rest : Checked) → (t ≡ false → K rest) → K (refused_by t v rest)
refused_or K r true v rest f = r v
refused_or K r false v rest f = f refl

through : (K : Checked → Type 0) → ((v : Verdict) → K (Err v)) → (p : ℕ) (bs : List ℕ) (opcode : ℕ) (s : Scissor)
    → (scissor_bad s ≡ false → K (object_of (copies opcode) (decode p (copies opcode) bs))) → K (checked_of p bs opcode s)
unfolding checked_of
through K r p bs opcode s f =
    let last = object_of (copies opcode) (decode p (copies opcode) bs) in
    let third = refused_by (scissor_bad s) verdict.Scissor last in
    let second = refused_by (short p opcode bs) verdict.Short third in
    refused_or K r (opcode_bad opcode) verdict.Opcode second (λ _. refused_or K r (short p opcode bs) verdict.Short third (λ _. refused_or K r (scissor_bad s) verdict.Scissor last f))

through_copy : (K : Checked → Type 0) → ((v : Verdict) → K (Err v)) → (bg : ObjBg) → (any (object_faults bg) ≡ false → any (copy_faults bg) ≡ false → K (Ok (background.Copy bg))) → K (object_of true bg)
unfolding object_of
through_copy K r bg f =
    let last = refused_by (any (copy_faults bg)) verdict.Copy (Ok (background.Copy bg)) in
    refused_or K r (any (object_faults bg)) verdict.Object last (λ e. refused_or K r (any (copy_faults bg)) verdict.Copy (Ok (background.Copy bg)) (f e))

through_scaled : (K : Checked → Type 0) → ((v : Verdict) → K (Err v)) → (bg : ObjBg) → (any (object_faults bg) ≡ false → K (Ok (background.Scaled bg))) → K (object_of false bg)
unfolding object_of
through_scaled K r bg f = refused_or K r (any (object_faults bg)) verdict.Object (Ok (background.Scaled bg)) f

edge_in : (z : ℤ) → edge_bad z ≡ false → Below 10 z
edge_in z e =
    let h = or_false (lt_z z (pos 0)) (lt_z (pos 1023) z) e in
    let l = h.0 in
    let m = h.1 in
    record { low = omega zarith; high = omega zarith }

edges_in : (s : Scissor) → scissor_bad s ≡ false → EdgesIn s
unfolding scissor_bad
edges_in s e =
    let h = falses (edge_bad s.ulx ∷ edge_bad s.uly ∷ edge_bad s.lrx ∷ edge_bad s.lry ∷ []) e in
    record { ulx = edge_in _ h.0; uly = edge_in _ h.1.0; lrx = edge_in _ h.1.1.0; lry = edge_in _ h.1.1.1.0 }

passed : (bg : ObjBg) (s : Scissor) → InRange bg → scissor_bad s ≡ false → any (object_faults bg) ≡ false → Passed bg s
unfolding object_faults
passed bg s r b e =
    let h = falses (object_faults bg) e in
    record {
      range = r;
      edges = edges_in s b;
      image_w = some _ h.0;
      image_h = some _ h.1.0;
      frame_w = some _ h.1.1.0;
      frame_h = some _ h.1.1.1.0;
      siz = ltb-false 3 _ h.1.1.1.1.0;
      fmt = ltb-false 4 _ h.1.1.1.1.1.0;
    }

passed_5 : (bg : ObjBg) (s : Scissor) → Passed bg s → any (copy_faults bg) ≡ false → PassedCopy bg s
unfolding copy_faults
passed_5 bg s q e =
    let h = falses (copy_faults bg) e in
    record {
      passed = q;
      tmem_h = ltb-false _ 4 h.1.0;
      columns = ltb-false _ 4 h.1.1.0;
      rows = ltb-false _ 4 h.1.1.1.0;
      flip = ltb-false 1 _ h.1.1.1.1.1.1.0;
    }

scaled : (p : ℕ) (bs : List ℕ) (s : Scissor) → Passed (decode p false bs) s → PassedScaled (decode p false bs) s
unfolding decode
scaled p bs s q = record { passed = q; scale_w = omega arith; scale_h = omega arith }

-- what passes is decoded as the checks' kind says
object_known : (p : ℕ) (copy : Bool) (bs : List ℕ) (s : Scissor) → Bytes bs → scissor_bad s ≡ false → KnownOf s (object_of copy (decode p copy bs))
object_known p true bs s h b = through_copy (KnownOf s) (λ v. tt) (decode p true bs) (λ e f. passed_5 _ s (passed _ s (decode_range p true bs h) b e) f)
object_known p false bs s h b = through_scaled (KnownOf s) (λ v. tt) (decode p false bs) (λ e. scaled p bs s (passed _ s (decode_range p false bs h) b e))

pub checked_known : (p : ℕ) (bs : List ℕ) (opcode : ℕ) (s : Scissor) → Bytes bs → KnownOf s (checked_of p bs opcode s)
checked_known p bs opcode s h = through (KnownOf s) (λ v. tt) p bs opcode s (object_known p (copies opcode) bs s h)

pub passed_copy : (p : ℕ) (bs : List ℕ) (opcode : ℕ) (s : Scissor) (bg : ObjBg) → Bytes bs → checked_of p bs opcode s ≡ Ok (background.Copy bg) → PassedCopy bg s
passed_copy p bs opcode s bg h e = subst (KnownOf s) e (checked_known p bs opcode s h)

pub passed_scaled : (p : ℕ) (bs : List ℕ) (opcode : ℕ) (s : Scissor) (bg : ObjBg) → Bytes bs → checked_of p bs opcode s ≡ Ok (background.Scaled bg) → PassedScaled bg s
passed_scaled p bs opcode s bg h e = subst (KnownOf s) e (checked_known p bs opcode s h)

-- ---- what passes is what the bytes hold

abbrev HeldBy : ℕ → List ℕ → Checked → Type 0
HeldBy p bs (Ok (background.Copy bg)) = bg ≡ decode p true bs
HeldBy p bs (Ok (background.Scaled bg)) = bg ≡ decode p false bs
HeldBy p bs (Err v) = Unit {0}

object_held : (p : ℕ) (copy : Bool) (bs : List ℕ) → HeldBy p bs (object_of copy (decode p copy bs))
object_held p true bs = through_copy (HeldBy p bs) (λ v. tt) (decode p true bs) (λ e f. refl)
object_held p false bs = through_scaled (HeldBy p bs) (λ v. tt) (decode p false bs) (λ e. refl)

checked_held : (p : ℕ) (bs : List ℕ) (opcode : ℕ) (s : Scissor) → HeldBy p bs (checked_of p bs opcode s)
checked_held p bs opcode s = through (HeldBy p bs) (λ v. tt) p bs opcode s (λ b. object_held p (copies opcode) bs)

pub checked_copy_is : (p : ℕ) (bs : List ℕ) (opcode : ℕ) (s : Scissor) (bg : ObjBg) → checked_of p bs opcode s ≡ Ok (background.Copy bg) → bg ≡ decode p true bs
checked_copy_is p bs opcode s bg e = subst (HeldBy p bs) e (checked_held p bs opcode s)

pub checked_scaled_is : (p : ℕ) (bs : List ℕ) (opcode : ℕ) (s : Scissor) (bg : ObjBg) → checked_of p bs opcode s ≡ Ok (background.Scaled bg) → bg ≡ decode p false bs
checked_scaled_is p bs opcode s bg e = subst (HeldBy p bs) e (checked_held p bs opcode s)

-- ---- the checks, from what the decoder gives

long : (t : Bool) (x bg : ObjBg) → decoded_by t x ≡ Some bg → (t ≡ false) × (x ≡ bg)
long true x bg e = let z : ◌≡◌ {A = ℕ} 0 1 = cc in absurd (omega arith)
long false x bg e = (refl, cc)

cut : (t : Bool) (x : ObjBg) → decoded_by t x ≡ None → t ≡ true
cut true x e = refl
cut false x e = let z : ◌≡◌ {A = ℕ} 0 1 = cc in absurd (omega arith)

asked : (t u copy : Bool) → ◌≡◌ {A = Result Bool Verdict} (cond t (Err verdict.Opcode) (Ok u)) (Ok copy) → (t ≡ false) × (u ≡ copy)
asked true u copy e = let z : ◌≡◌ {A = ℕ} 0 1 = cc in absurd (omega arith)
asked false u copy e = (refl, cc)

module _ (p : ℕ) (bs : List ℕ) (opcode : ℕ) (s : Scissor) (copy : Bool) (k : kind_of opcode ≡ Ok copy) where
  pub short_refused : decoded_of p copy bs ≡ None → Err verdict.Short ≡ checked_of p bs opcode s
  unfolding checked_of decoded_of
  short_refused d = let o = asked (opcode_bad opcode) (copies opcode) copy k in rw (o.0, o.1, cut (ltb (length bs) (size_of p copy)) (decode p copy bs) d)

  pub object_checked : (bg : ObjBg) → decoded_of p copy bs ≡ Some bg → refused_by (scissor_bad s) verdict.Scissor (object_of copy bg) ≡ checked_of p bs opcode s
  unfolding checked_of decoded_of
  object_checked bg d =
      let o = asked (opcode_bad opcode) (copies opcode) copy k in
      let h = long (ltb (length bs) (size_of p copy)) (decode p copy bs) bg d in
      rw (o.0, o.1, h.0, h.1)

pub checked_is : (bs : List ℕ) (opcode : ℕ) (s : Scissor) (r : Checked) → Bytes bs → r ≡ checked_of 4 bs opcode s → CheckedIs bs opcode s r
checked_is bs opcode s r h e = record { is = e; known = subst (KnownOf s) (sym e) (checked_known 4 bs opcode s h) }
