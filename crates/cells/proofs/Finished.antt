-- A finished copy plan has no entries, of an empty frame, or the image and the five of each strip, all of which fit: what holds of both holds of the plan. None is finished that a check refuses, and any other plan has gone over all its places.
-- Assumes nothing.
use Rattle.std.specs.Prelude.{◌≡◌, true, false, List, [], ◌∷◌, ℕ, eqb}
use Rattle.std.proofs.Common.{sym, ap, subst, ◌∙◌, true≢false, arith}
use Rattle.object.specs.declared.types.Verdict.{Verdict}
use Rattle.object.specs.declared.types.Verdict.TheVariants as verdict
use Rattle.object.specs.Layout.{Bytes}
use Rattle.checks.specs.Check.{verdict_number}
use Rattle.plan.specs.Request.{Request}
use Rattle.plan.specs.declared.types.Copy.{Copy}
use Rattle.plan.specs.declared.types.Entry.{Entry}
use Rattle.plan.specs.Out.{Out, Plan, ◌>>◌, emit, plan_out}
use Rattle.plan.specs.Out.Out.{go, stop}
use Rattle.plan.specs.Copy.{copy_empty, copy_plan}
use Rattle.plan.specs.Whole.{plan_with}
use Rattle.plan.specs.Sound.{SoundCopy}
use Rattle.copy.specs.Walk.{image_entry, too_big}
use Rattle.cells.specs.Places.{places_of, strips_out, All}
use Rattle.cells.specs.Given.{entries_of}
use Rattle.cells.specs.Course.{frame_of, Course}
use Rattle.cells.specs.Course.Course.{refused, empty, framed}
use Rattle.cells.proofs.Places.{plan_listed}
use Rattle.cells.proofs.Given.{Strips, strips_given}
use Rattle.cells.proofs.Course.{course}

-- the image and the strips, if the walk over them goes on
abbrev Drawn : Copy → Out (Unit {0}) → Type 0
Drawn c o = (plan_out o).verdict ≡ verdict.Finished → ((plan_out o).entries ≡ image_entry c ∷ entries_of (places_of c)) × All (λ p. too_big p ≡ false) (places_of c)

walked : (c : Copy) (o : Out (Unit {0})) → Strips (places_of c) o → Drawn c (emit (image_entry c) >> o)
walked c (go es u) h e = (ap (λ (l : List Entry). image_entry c ∷ l) h.0, h.1)
walked c (stop es l v) h e = absurd (true≢false (sym (ap (λ (w : Verdict). eqb (verdict_number w) 0) e) ∙ h))

drawn : (c : Copy) → Drawn c (copy_plan c)
drawn c = rw (plan_listed c) (walked c (strips_out (places_of c)) (strips_given (places_of c)))

-- of a request, for pointers of p bytes
module _ (p : ℕ) (q : Request) (o : q.opcode ≡ 10) (b : Bytes q.bytes) (f : (plan_with p q).verdict ≡ verdict.Finished) where
  abbrev frame : Copy
  frame = frame_of p q

  pub of_finished : (P : List Entry → Type 0) → (copy_empty frame ≡ true → P [])
      → (SoundCopy frame → All (λ p. too_big p ≡ false) (places_of frame) → P (image_entry frame ∷ entries_of (places_of frame))) → P (plan_with p q).entries
  of_finished P none some = by (course p q o b)
    where
      to : (r : Plan) → plan_with p q ≡ r → (r.verdict ≡ verdict.Finished → P r.entries) → P (plan_with p q).entries
      to r e h = subst (λ (r : Plan). P r.entries) (sym e) (h (sym (ap (λ (r : Plan). r.verdict) e) ∙ f))

      by : Course p q → P (plan_with p q).entries
      by (refused v k e) = to _ e (λ g. let z = ap verdict_number g in let l = k.low in absurd (omega arith))
      by (empty t e) = to _ e (λ g. none t)
      by (framed s e) = to _ e (λ g. let d = drawn frame g in subst P (sym d.0) (some s d.1))
