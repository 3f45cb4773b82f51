-- Demand 3 of what a caller sees: any prefix of the plan, the first n entries, the answers of n steps, a plan cut by its buffer.
-- Assumes nothing.
use Rattle.std.specs.Prelude.{◌≡◌, refl, Bool, true, false, cond, List, [], ◌∷◌, ◌++◌, ℕ, zero, suc, ◌/◌, ltb, length, take, drop}
use Rattle.std.proofs.Common.{sym, ap, subst, take-append-drop}
use Rattle.plan.specs.Request.{Request}
use Rattle.plan.specs.declared.types.Entry.{Entry}
use Rattle.tile.specs.declared.bank.Bank.{Bank}
use Rattle.plan.specs.Whole.{plan_of}
use Rattle.plan.specs.declared.types.End.{End}
use Rattle.object.specs.declared.types.Verdict.TheVariants.{Full}
use Rattle.plan.specs.Run.{cut_at}
use Rattle.plan.specs.Steps.{Stepped, StepsGive, answers_of, answers}
use Rattle.plan.specs.Demand.{drift_of, strips_of, AllNear, Apt}
use Rattle.drift.specs.Plain.{near_prefix}
use Rattle.drift.proofs.Demand3.{demand3}
use Rattle.drift.specs.Prefix.{entries_in}

-- any prefix of the plan
pub prefix_near : (q : Request) → Apt q → (es fs : List Entry) → (plan_of q).entries ≡ es ++ fs → AllNear (drift_of q) 0 (strips_of (drift_of q)) es
prefix_near q a es fs e = near_prefix (drift_of q) 0 (strips_of (drift_of q)) es fs (subst (λ (x : List Entry). AllNear (drift_of q) 0 (strips_of (drift_of q)) x) e (demand3 q a))

-- the first n entries
pub first_near : (q : Request) → Apt q → (n : ℕ) → AllNear (drift_of q) 0 (strips_of (drift_of q)) (take n (plan_of q).entries)
first_near q a n = prefix_near q a (take n (plan_of q).entries) (drop n (plan_of q).entries) (sym (take-append-drop n (plan_of q).entries))

none_given : (n : ℕ) (e : End) → entries_in (answers n [] e) ≡ []
unfolding entries_in answers
none_given zero e = refl
none_given (suc n) e = none_given n e

pub given_is : (n : ℕ) (es : List Entry) (e : End) → entries_in (answers n es e) ≡ take n es
unfolding entries_in answers
given_is zero [] e = refl
given_is zero (x ∷ es) e = refl
given_is (suc n) [] e = none_given n e
given_is (suc n) (x ∷ es) e = ap (λ (l : List Entry). x ∷ l) (given_is n es e)

-- the answers of n steps of any planner that meets demand 2
pub steps_near : {P : Type 0} (fresh : Request → P) (step_of : P → Bank → Stepped P) → StepsGive fresh step_of → (q : Request) → Apt q → (b : Bank) (n : ℕ) → AllNear (drift_of q) 0 (strips_of (drift_of q)) (entries_in (answers_of step_of n (fresh q) b))
steps_near fresh step_of law q a b n = rw (law.answered q b n, given_is n (plan_of q).entries) (first_near q a n)

-- a plan cut by a buffer of n words
pub cut_near : (q : Request) → Apt q → (n : ℕ) → AllNear (drift_of q) 0 (strips_of (drift_of q)) (cut_at n (plan_of q)).entries
unfolding cut_at
cut_near q a n = by (ltb (n / 11) (length (plan_of q).entries))
  where
    by : (t : Bool) → AllNear (drift_of q) 0 (strips_of (drift_of q)) (cond t (record { entries = take (n / 11) (plan_of q).entries; left = []; verdict = Full }) (plan_of q)).entries
    by true = first_near q a (n / 11)
    by false = demand3 q a
