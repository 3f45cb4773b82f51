-- Each way out of the set-up, by the two tests of its definition; and the plan of a scaled background, which its set-up makes.
-- Assumes nothing.
use Rattle.std.specs.Prelude.{◌≡◌, refl, Bool, true, false, cond, [], ℕ, Result, Ok, Err}
use Rattle.std.proofs.Common.{ap, ◌∙◌}
use Rattle.object.specs.declared.types.ObjBg.{ObjBg}
use Rattle.object.specs.declared.types.Scissor.{Scissor}
use Rattle.object.specs.declared.types.Verdict.{Verdict}
use Rattle.object.specs.declared.types.Verdict.TheVariants as verdict
use Rattle.plan.specs.Request.{Request}
use Rattle.plan.specs.Out.{Plan, yield, refuse, plan_out}
use Rattle.plan.specs.Next.{ended}
use Rattle.plan.specs.Scaled.{clip_of, scaled_empty, start_of, scaled_of, slices_bad, first_of, scaled_plan}
use Rattle.plan.specs.Whole.{scaled_out}
use Rattle.setup.specs.declared.parts.SetUp.{SetUp}
use Rattle.setup.specs.Parts.{parts_of, set_up_of, PartsAre, SetUpIs}

module _ (bg : ObjBg) (s : Scissor) (mode address : ℕ) where
  pub empty_is : scaled_empty (clip_of bg s) ≡ true → SetUpIs bg s mode address (Err verdict.Finished)
  unfolding set_up_of
  empty_is t = record { is = rw t; parts = tt }

  pub bad_is : scaled_empty (clip_of bg s) ≡ false → slices_bad (scaled_of bg mode address (clip_of bg s) (start_of bg (clip_of bg s))) ≡ true → SetUpIs bg s mode address (Err verdict.Slices)
  unfolding set_up_of
  bad_is t u = record { is = rw (t, u); parts = tt }

  filled_is : scaled_empty (clip_of bg s) ≡ false → slices_bad (scaled_of bg mode address (clip_of bg s) (start_of bg (clip_of bg s))) ≡ false → Ok (parts_of bg s mode address) ≡ set_up_of bg s mode address
  unfolding set_up_of
  filled_is t u = rw (t, u)

  pub parts_are : {p : SetUp} → PartsAre bg s mode address p → SetUpIs bg s mode address (Ok p)
  parts_are {p} h =
      let ic = h.clip.is in
      let ii : p.start ≡ start_of bg (clip_of bg s) = h.start.is ∙ ap (start_of bg) ic in
      let iz : p.scaled ≡ scaled_of bg mode address (clip_of bg s) (start_of bg (clip_of bg s)) = h.scaled.is ∙ (λ j. scaled_of bg mode address (ic j) (ii j)) in
      let if : p.first ≡ first_of (scaled_of bg mode address (clip_of bg s) (start_of bg (clip_of bg s))) (start_of bg (clip_of bg s)) = h.first.is ∙ (λ j. first_of (iz j) (ii j)) in
      let e : p ≡ parts_of bg s mode address = λ j. record { clip = ic j; start = ii j; scaled = iz j; first = if j } in
      record { is = ap Ok e ∙ filled_is (rw ic at h.filled) (rw iz at h.good); parts = h }

-- the plan of a set-up: its passes, or the verdict alone
abbrev pub plan_by : Result SetUp Verdict → Plan
plan_by (Ok p) = plan_out (scaled_plan p.scaled p.clip p.first)
plan_by (Err v) = ended [] v

pub scaled_by : (bg : ObjBg) (q : Request) → plan_out (scaled_out bg q) ≡ plan_by (set_up_of bg q.scissor q.mode q.address)
unfolding scaled_out set_up_of
scaled_by bg q = by (scaled_empty p.clip) (slices_bad p.scaled)
  where
    p : SetUp
    p = parts_of bg q.scissor q.mode q.address

    by : (t u : Bool) → plan_out (elim t [ true ↦ yield tt | false ↦ elim u [ true ↦ refuse verdict.Slices | false ↦ scaled_plan p.scaled p.clip p.first ] ])
        ≡ plan_by (cond t (Err verdict.Finished) (cond u (Err verdict.Slices) (Ok p)))
    by true u = refl
    by false true = refl
    by false false = refl
