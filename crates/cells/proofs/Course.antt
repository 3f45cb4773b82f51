-- The checks of a copy request one after another, then the test for an empty frame: each answer is one of the three.
-- Assumes nothing.
use Rattle.std.specs.Prelude.{◌≡◌, refl, Ok, Err, Bool, true, false, List, ℕ, ◌+◌, ◌/◌, ◌≤◌}
use Rattle.std.proofs.Common.{sym, ap, subst, ◌∙◌, arith}
use Rattle.object.specs.declared.types.Scissor.{Scissor}
use Rattle.object.specs.declared.types.Verdict.{Verdict}
use Rattle.object.specs.declared.types.Verdict.TheVariants as verdict
use Rattle.object.specs.declared.types.Background.TheVariants as background
use Rattle.object.specs.Layout.{layout, value_of, decode, Bytes}
use Rattle.object.specs.Reads.{read_below}
use Rattle.checks.specs.Check.{Checked, verdict_number, any, scissor_bad, object_faults, copy_faults, short, refused_by, object_of, checked_of}
use Rattle.checks.proofs.Passed.{passed_copy}
use Rattle.plan.specs.Request.{Request}
use Rattle.plan.specs.Out.{Out, yield, plan_out}
use Rattle.plan.specs.Copy.{copy_empty, copy_plan}
use Rattle.plan.specs.Whole.{copy_out, checked_out, plan_with}
use Rattle.strips.specs.Frame.{copy_sound}
use Rattle.cells.specs.Course.{object_in, frame_of, ByChecks, Course}
use Rattle.cells.specs.Course.Course.{refused, empty, framed}

-- ---- the checks of a copy request

abbrev pub Kind : ℕ → List ℕ → Checked → Type 0
Kind p bs (Err v) = ByChecks v
Kind p bs (Ok (background.Copy bg)) = bg ≡ decode p true bs
Kind p bs (Ok (background.Scaled bg)) = ⊥

refused_or : (p : ℕ) (bs : List ℕ) (t : Bool) (v : Verdict) (rest : Checked) → ByChecks v → Kind p bs rest → Kind p bs (refused_by t v rest)
refused_or p bs true v rest r k = r
refused_or p bs false v rest r k = k

pub copy_kind : (p : ℕ) (bs : List ℕ) (s : Scissor) → Kind p bs (checked_of p bs 10 s)
unfolding checked_of object_of
copy_kind p bs s =
    let bg = decode p true bs in
    let fifth : Checked = refused_by (any (copy_faults bg)) verdict.Copy (Ok (background.Copy bg)) in
    let fourth : Checked = refused_by (any (object_faults bg)) verdict.Object fifth in
    let third : Checked = refused_by (scissor_bad s) verdict.Scissor fourth in
    refused_or p bs (short p 10 bs) verdict.Short third (record { low = omega arith; high = omega arith })
    (refused_or p bs (scissor_bad s) verdict.Scissor fourth (record { low = omega arith; high = omega arith })
    (refused_or p bs (any (object_faults bg)) verdict.Object fifth (record { low = omega arith; high = omega arith })
    (refused_or p bs (any (copy_faults bg)) verdict.Copy (Ok (background.Copy bg)) (record { low = omega arith; high = omega arith }) refl)))

rows_in : (p : ℕ) (bs : List ℕ) → Bytes bs → (decode p true bs).tmem_h / 4 ≤ 16383
unfolding decode value_of layout
rows_in p bs h = omega (arith, read_below bs (26 + p) 2 h)

-- ---- what comes of them

empty_out : (p : ℕ) (q : Request) → copy_empty (frame_of p q) ≡ true → copy_out (object_in p q) q ≡ yield tt
unfolding copy_out
empty_out p q t = rw (t, copy_out)

drawn_out : (p : ℕ) (q : Request) → copy_empty (frame_of p q) ≡ false → copy_out (object_in p q) q ≡ copy_plan (frame_of p q)
unfolding copy_out
drawn_out p q t = rw (t, copy_out)

-- of a finished plan the checks have given the object
pub passed : (p : ℕ) (q : Request) → q.opcode ≡ 10 → (plan_with p q).verdict ≡ verdict.Finished → checked_of p q.bytes 10 q.scissor ≡ Ok (background.Copy (object_in p q))
unfolding plan_with checked_out
passed p q o f = by (checked_of p q.bytes 10 q.scissor) refl (copy_kind p q.bytes q.scissor)
  where
    by : (r : Checked) → checked_of p q.bytes 10 q.scissor ≡ r → Kind p q.bytes r → checked_of p q.bytes 10 q.scissor ≡ Ok (background.Copy (object_in p q))
    by (Err v) e k =
        let n : ◌≡◌ {A = ℕ} (verdict_number v) 0 = ap verdict_number (sym (ap (λ (n : ℕ). (plan_out (checked_out (checked_of p q.bytes n q.scissor) q)).verdict) o ∙ ap (λ (r : Checked). (plan_out (checked_out r q)).verdict) e) ∙ f) in
        let l = k.low in
        absurd (omega arith)
    by (Ok (background.Copy bg)) e k = e ∙ ap (λ (bg : _). Ok (background.Copy bg)) k
    by (Ok (background.Scaled bg)) e k = absurd k

pub course : (p : ℕ) (q : Request) → q.opcode ≡ 10 → Bytes q.bytes → Course p q
unfolding plan_with checked_out
course p q o b = by (checked_of p q.bytes q.opcode q.scissor) refl (subst (λ (n : ℕ). Kind p q.bytes (checked_of p q.bytes n q.scissor)) (sym o) (copy_kind p q.bytes q.scissor))
  where
    is : (r : Checked) (a : Out (Unit {0})) → checked_of p q.bytes q.opcode q.scissor ≡ r → checked_out r q ≡ a → plan_with p q ≡ plan_out a
    is r a e d = ap (λ (r : Checked). plan_out (checked_out r q)) e ∙ ap plan_out d

    checked : (t : Bool) → copy_empty (frame_of p q) ≡ t → checked_of p q.bytes q.opcode q.scissor ≡ Ok (background.Copy (object_in p q)) → Course p q
    checked true t e = empty t (is (Ok (background.Copy (object_in p q))) (yield tt) e (empty_out p q t))
    checked false t e =
        framed (copy_sound (object_in p q) q.scissor q.address (passed_copy p q.bytes q.opcode q.scissor (object_in p q) b e) (rows_in p q.bytes b) t)
        (is (Ok (background.Copy (object_in p q))) (copy_plan (frame_of p q)) e (drawn_out p q t))

    by : (r : Checked) → checked_of p q.bytes q.opcode q.scissor ≡ r → Kind p q.bytes r → Course p q
    by (Err v) e k = refused v k (is (Err v) _ e refl)
    by (Ok (background.Copy bg)) e k = checked (copy_empty (frame_of p q)) refl (e ∙ ap (λ (bg : _). Ok (background.Copy bg)) k)
    by (Ok (background.Scaled bg)) e k = absurd k
