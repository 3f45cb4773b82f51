-- Demand 3 with its two limits written out in numbers, so that an edit of a number meets the theorem that has it.
-- Assumes nothing.
use Rattle.std.specs.Prelude.{◌≡◌, refl, Bool, true, false, cond, List, [], ◌∷◌, ℕ, ◌+◌, ◌-◌, ◌/◌, eqb, ℤ, pos, neg_ℤ, ◌≤ℤ◌}
use Rattle.std.proofs.Common.{arith}
use Rattle.std.proofs.lemmas.Bool.{eqb-false}
use Rattle.signed.specs.Diff.{zdiff, zarith}
use Rattle.signed.specs.Floor.{modulo}
use Rattle.plan.specs.Request.{Request}
use Rattle.plan.specs.declared.types.Entry.{Entry}
use Rattle.plan.specs.declared.types.Entry.TheVariants.{Image, Tile, Size, Load, Rect}
use Rattle.plan.specs.Whole.{plan_of}
use Rattle.plan.specs.Demand.{Drift, drift_of, strips_of, ahead, Near, AllNear, Apt}
use Rattle.drift.proofs.Demand3.{demand3}
use Rattle.drift.specs.Limits.{EachLine, Behind, Before}

each : (R : (d : Drift) (k x : ℤ) → Type 0) → ((d : Drift) (k x : ℤ) → Near d k x → R d k x) → (d : Drift) (n : ℕ) (ks : List ℤ) (es : List Entry) → AllNear d n ks es → EachLine R d n ks es
each R f d n ks [] a = tt
each R f d n ks (Image fmt siz width address ∷ es) a = each R f d n ks es a
each R f d n ks (Tile i fmt siz line tmem palette cms cmt masks maskt ∷ es) a = each R f d n ks es a
each R f d n ks (Size i uls ult lrs lrt ∷ es) a = each R f d n ks es a
each R f d n ks (Load i uls ult lrs lrt words rows stride start len ∷ es) a = each R f d n ks es a
each R f d n [] (Rect i ulx uly lrx lry uls ult dsdx dtdy row ∷ es) a = a
each R f d n (k ∷ ks) (Rect i ulx uly lrx lry uls ult dsdx dtdy row ∷ es) a = (λ j l. f d k (ahead d k row ult n j) (a.0 j l), each R f d (n + (lry - uly) / 4) ks es a.1)

-- the limit behind by the origin's remainder
by_rest : (h om : ℕ) (x : ℤ) → neg_ℤ (pos (h + cond (eqb om 0) 30 1022)) ≤ℤ x → (om ≡ 0 → neg_ℤ (pos (h + 30)) ≤ℤ x) × (neg_ℤ (pos (h + 1022)) ≤ℤ x)
by_rest h om x = by (eqb om 0) refl
  where
    by : (t : Bool) → eqb om 0 ≡ t → neg_ℤ (pos (h + cond t 30 1022)) ≤ℤ x → (om ≡ 0 → neg_ℤ (pos (h + 30)) ≤ℤ x) × (neg_ℤ (pos (h + 1022)) ≤ℤ x)
    by true e b = (λ z. b, let g = simp zdiff at b in simp zdiff (omega zarith))
    by false e b = (λ z. absurd (eqb-false om 0 e z), b)

behind_is : (d : Drift) (k x : ℤ) → Near d k x → Behind d k x
behind_is d k x n = let b = by_rest d.h (modulo d.origin 32) x n.behind in (λ e. omega (zarith, b.0 (omega (arith, e))), omega (zarith, b.1))

pub behind_all : (q : Request) → Apt q → EachLine Behind (drift_of q) 0 (strips_of (drift_of q)) (plan_of q).entries
behind_all q a = each Behind behind_is (drift_of q) 0 (strips_of (drift_of q)) (plan_of q).entries (demand3 q a)

pub before_all : (q : Request) → Apt q → EachLine Before (drift_of q) 0 (strips_of (drift_of q)) (plan_of q).entries
before_all q a = each Before (λ d k x n. n.before) (drift_of q) 0 (strips_of (drift_of q)) (plan_of q).entries (demand3 q a)
