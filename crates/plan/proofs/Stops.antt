-- What holds of the verdict with which a plan stops, if it stops: of its parts, and so of the whole.
-- Assumes nothing.
use Rattle.std.specs.Prelude.{Bool, true, false, List, []}
use Rattle.object.specs.declared.types.Verdict.{Verdict}
use Rattle.plan.specs.declared.types.Entry.{Entry}
use Rattle.plan.specs.Out.{Out, more, ◌>>=◌}
use Rattle.plan.specs.Out.Out.{go, stop}

abbrev StopsBy : {A : Type 0} → (Verdict → Type 0) → Out A → Type 0
StopsBy P (go es a) = Unit {0}
StopsBy P (stop es l v) = P v

-- a record, so that the search sees which outcome is meant
pub record Stops {A : Type 0} (P : Verdict → Type 0) (o : Out A) : Type 0 where
  pub by : StopsBy P o

module _ {P : Verdict → Type 0} where
  pub stops_go : {A : Type 0} (es : List Entry) (a : A) → Stops P (go es a)
  stops_go es a = record { by = tt }

  pub stops_stop : {A : Type 0} (l : List Entry) (v : Verdict) → P v → Stops {A = A} P (stop [] l v)
  stops_stop l v h = record { by = h }

  pub stops_more : {A : Type 0} (es : List Entry) (a : Out A) → Stops P a → Stops P (more es a)
  stops_more es (go fs a) h = record { by = tt }
  stops_more es (stop fs l v) h = record { by = h.by }

  pub stops_bind : {A B : Type 0} (a : Out A) (k : A → Out B) → Stops P a → ((x : A) → Stops P (k x)) → Stops P (a >>= k)
  stops_bind (go es x) k h f = stops_more es (k x) (f x)
  stops_bind (stop es l v) k h f = record { by = h.by }

  pub stops_if : {A : Type 0} (t : Bool) (a b : Out A) → Stops P a → Stops P b → Stops {A = A} P (elim t [ true ↦ a | false ↦ b ])
  stops_if true a b h k = h
  stops_if false a b h k = k
