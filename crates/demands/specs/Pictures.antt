-- What is claimed of the steps of a picture's object. proofs/Pictures.antt has it of any list of steps and of a run.
-- Assumes nothing.
use Rattle.std.specs.Prelude.{◌≡◌, false, Ok, Err, List, [], ◌∷◌, eqb}
use Rattle.object.specs.declared.types.Verdict.TheVariants as verdict
use Rattle.checks.specs.Check.{verdict_number}
use Rattle.plan.specs.declared.types.End.{End}
use Rattle.plan.specs.Steps.{Answer}

-- no answer is an end by verdict 7
abbrev pub Never7 : List Answer → Type 0
Never7 [] = Unit {0}
Never7 (Ok e ∷ rest) = Never7 rest
Never7 (Err e ∷ rest) = (eqb (verdict_number e.verdict) 7 ≡ false) × Never7 rest

-- verdict 7 after one entry, and verdict 10 before it
abbrev pub too_big_end : End
too_big_end = record { verdict = verdict.TooBig; entries = 1; rectangles = 0; words = 0 }

abbrev pub full_end : End
full_end = record { verdict = verdict.Full; entries = 0; rectangles = 0; words = 0 }
