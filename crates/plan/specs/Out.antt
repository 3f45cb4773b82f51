-- The entries of a plan, and plans as they are made: entries, then a value to go on with or a verdict to stop with. D is docs/SPECIFICATION.md.
-- Assumes nothing.
use Rattle.std.specs.Prelude.{List, [], ◌∷◌, ◌++◌}
use Rattle.plan.specs.declared.types.Entry.{Entry}
use Rattle.object.specs.declared.types.Verdict.{Verdict}
use Rattle.object.specs.declared.types.Verdict.TheVariants.{Finished}

-- `go es a`: the entries es, then go on with a. `stop es l v`: the entries es, then the verdict v; l is what the refused call has set already, though it is no entry
pub data Out (A : Type 0) : Type 0 where
  go : List Entry → A → Out A
  stop : List Entry → List Entry → Verdict → Out A

-- entries in front
abbrev pub more : {A : Type 0} → List Entry → Out A → Out A
more es (go fs a) = go (es ++ fs) a
more es (stop fs l v) = stop (es ++ fs) l v

infixl 10 ◌>>=◌ ◌>>◌
-- the first, and if it goes on the second with its value; the Rust's `?`
abbrev pub ◌>>=◌ : {A B : Type 0} → Out A → (A → Out B) → Out B
go es a >>= k = more es (k a)
stop es l v >>= k = stop es l v

abbrev pub ◌>>◌ : {A B : Type 0} → Out A → Out B → Out B
a >> b = a >>= (λ _. b)

abbrev pub yield : {A : Type 0} → A → Out A
yield a = go [] a

abbrev pub emit : Entry → Out (Unit {0})
emit e = go (e ∷ []) tt

abbrev pub refuse : {A : Type 0} → Verdict → Out A
refuse v = stop [] [] v

-- a plan: its entries, the verdict, and what a refused call has set (D "with one exception")
pub record Plan : Type 0 where
  pub entries : List Entry
  pub left : List Entry
  pub verdict : Verdict

abbrev pub plan_out : Out (Unit {0}) → Plan
plan_out (go es u) = record { entries = es; left = []; verdict = Finished }
plan_out (stop es l v) = record { entries = es; left = l; verdict = v }
