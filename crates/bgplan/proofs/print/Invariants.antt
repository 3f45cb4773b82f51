-- A text is out, and what it leaves of the whole text is still to come; each piece but the last has a line, so that fewer entries are to come.
use Rattle.std.proofs.Common.{◌≡◌, List, ◌++◌, ℕ, length, Option}
use Rattle.std.specs.Io.KnownBytes.{Appends}
use Rattle.planner.specs.Planner.{Planner}
use Rattle.planner.specs.Coming.{coming}
use Rattle.show.specs.Joined.{coming_text}
use Rattle.bgplan.proofs.print.Given as goal

pub record Printing {W : Type 0} (contents : W → Option (List ℕ)) (output₀ output : W) (start planner : Planner) (piece : List ℕ) : Type 0 where
  pub text : List ℕ
  pub out : Appends (contents output₀) (contents output) text
  pub rest : coming_text (coming start) ≡ text ++ coming_text (coming planner)
  pub room : length piece ≡ 262144

abbrev pub invariant-loop-chunk : goal.invariant-loop-chunk
invariant-loop-chunk g l = Printing g.W.Write.contents l.initial.output l.output l.initial.planner l.planner l.piece

abbrev pub decreases-loop-chunk : goal.decreases-loop-chunk
decreases-loop-chunk g l = length (coming l.planner).entries
