-- One step of a walk, and what it has to do with the plan that is still to come.
-- Assumes nothing.
use Rattle.std.specs.Prelude.{◌≡◌, List, [], ◌∷◌}
use Rattle.object.specs.declared.types.Verdict.{Verdict}
use Rattle.plan.specs.declared.types.Entry.{Entry}
use Rattle.plan.specs.Out.{Plan}

-- what a walk W answers: an entry and the walk after it; or its end, with what the refused call has set
pub data Next (W : Type 0) : Type 0 where
  give : Entry → W → Next W
  over : List Entry → Verdict → Next W

-- an entry in front of a plan
abbrev pub cons : Entry → Plan → Plan
cons e p = record { entries = e ∷ p.entries; left = p.left; verdict = p.verdict }

abbrev pub ended : List Entry → Verdict → Plan
ended left v = record { entries = []; left = left; verdict = v }

-- the answer is the first of the plan p, and what the walk after it has to come is the rest
abbrev pub Follows : {W : Type 0} → (W → Plan) → Plan → Next W → Type 0
Follows coming p (give e w) = p ≡ cons e (coming w)
Follows coming p (over left v) = p ≡ ended left v
