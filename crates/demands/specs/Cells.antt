-- When a copy plan has been stepped to its end, and when entries are all of a finished plan's. proofs/Cells.antt has what then holds of its cells.
-- Assumes nothing.
use Rattle.std.specs.Prelude.{◌≡◌, Bool, false, cond, Ok, Err, List, [], ◌∷◌, ℕ, eqb, get_or}
use Rattle.object.specs.declared.types.Verdict.TheVariants as verdict
use Rattle.plan.specs.Request.{Request}
use Rattle.plan.specs.declared.types.Entry.{Entry}
use Rattle.plan.specs.Steps.{Answer}
use Rattle.plan.specs.Whole.{plan_of}

-- one of the answers is the end of a plan that is finished
abbrev pub Finishes : List Answer → Type 0
Finishes [] = ⊥
Finishes (Ok e ∷ rest) = Finishes rest
Finishes (Err e ∷ rest) = e.verdict ≡ verdict.Finished

-- the same of the words of answers: kind 9, and verdict 0
abbrev pub finishes : List (List ℕ) → Bool
finishes [] = false
finishes (out ∷ outs) = cond (eqb (get_or out 0 0) 9) (eqb (get_or out 1 0) 0) (finishes outs)

-- these entries are all of a finished plan's
pub record Whole (q : Request) (es : List Entry) : Type 0 where
  pub finished : (plan_of q).verdict ≡ verdict.Finished
  pub is : es ≡ (plan_of q).entries
