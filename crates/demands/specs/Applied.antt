-- A plan's words applied eleven at a time. proofs/Applied.antt has that they set what the run sets.
-- Assumes nothing.
use Rattle.std.specs.Prelude.{List, ℕ, zero, suc, take, drop}
use Rattle.visorlongan.specs.Host.{host_apply}

-- the first n entries in a plan's words, applied one after another
unfoldable pub applied_from : (n : ℕ) → (plan bank : List ℕ) → List ℕ
applied_from zero plan bank = bank
applied_from (suc n) plan bank = applied_from n (drop 11 plan) (host_apply (take 11 plan) bank).bank
