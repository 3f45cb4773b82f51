-- What is read so far stands at the front of the bytes, and what is left of the input follows it.
use Rattle.std.proofs.Common.{Option, List, ℕ, length, ◌-◌, ◌≡◌, ◌≤◌, take}
use Rattle.std.specs.Io.KnownBytes.{Consumes}
use Rattle.bgplan.proofs.read.Given as goal

pub record Reading {R : Type 0} (remaining : R → Option (List ℕ)) (input₀ input : R) (bytes₀ bytes : List ℕ) (n : ℕ) : Type 0 where
  pub fits : n ≤ length bytes
  pub same : length bytes ≡ length bytes₀
  pub first : Consumes (remaining input₀) (remaining input) (take n bytes)

abbrev pub invariant-loop-n : goal.invariant-loop-n
invariant-loop-n g l = Reading g.R.Read.remaining l.initial.input l.input l.initial.bytes l.bytes l.n

abbrev pub decreases-loop-n : goal.decreases-loop-n
decreases-loop-n g l = length l.initial.bytes - l.n
