-- Demand 3 of what `visor_drift` writes: each rectangle's distance lies between the limits that stand beside it. D is docs/SPECIFICATION.md, section 11.
-- Assumes nothing.
use Rattle.std.specs.Prelude.{◌≡◌, refl, Bool, true, false, cond, ◌&&◌, List, [], ◌∷◌, ℕ, zero, suc, ◌+◌, ◌-◌, ◌/◌, ◌%◌, ℤ, pos, ◌+ℤ◌, ◌*ℤ◌, length, take, get_or, ◌≤ℤ◌}
use Rattle.std.proofs.Common.{arith, eq-eqb, eqb-true}
use Rattle.std.proofs.lemmas.Bool.{and_parts}
use Rattle.signed.specs.Diff.{zdiff, zarith}
use Rattle.signed.specs.Floor.{floor_div, parts}
use Rattle.plan.specs.declared.types.Entry.{Entry}
use Rattle.plan.specs.declared.types.Entry.TheVariants.{Image, Tile, Size, Load, Rect}
use Rattle.plan.specs.Request.{Request}
use Rattle.plan.specs.Whole.{plan_of}
use Rattle.plan.specs.Demand.{Drift, drift_of, strips_of, ahead, behind_of, ahead_of, Near, AllNear, Apt, Begun, aheads, apt}
use Rattle.request.specs.Host.{host_request}
use Rattle.drift.proofs.Demand3.{demand3}
use Rattle.drift.specs.Words.{Drawn}
use Rattle.drift.proofs.Words.{drawn_entries}
use Rattle.ruler.specs.Drifts.{drifts_of, set_up}
use Rattle.measuring.specs.Host.{shown_of, measured_of, host_drift}

-- ---- the limits of each rectangle

abbrev pub Between : Drift → Begun → Type 0
Between d b = (behind_of d ≤ℤ b.distance) × (b.distance ≤ℤ ahead_of d.h b.strip)

abbrev pub AllBetween : Drift → List Begun → Type 0
AllBetween d [] = Unit {0}
AllBetween d (b ∷ bs) = Between d b × AllBetween d bs

-- the limit ahead is the greatest whole d
rounded : (x y : ℤ) → (pos 1024 *ℤ x) ≤ℤ y → x ≤ℤ floor_div y 1024
rounded x y h = let p = parts y 1024 (omega arith) in let g = simp zdiff at h in omega zarith

between : (d : Drift) (k x : ℤ) → Near d k x → (behind_of d ≤ℤ x) × (x ≤ℤ ahead_of d.h k)
between d k x n = (n.behind, rounded x (pos d.h *ℤ (pos 1024 +ℤ k)) n.before)

begun_between : (d : Drift) (n : ℕ) (ks : List ℤ) (es : List Entry) → Drawn es → AllNear d n ks es → AllBetween d (aheads d n ks es)
unfolding aheads
begun_between d n ks [] l h = tt
begun_between d n ks (Image fmt siz width address ∷ es) l h = begun_between d n ks es l h
begun_between d n ks (Tile i fmt siz line tmem palette cms cmt masks maskt ∷ es) l h = begun_between d n ks es l h
begun_between d n ks (Size i uls ult lrs lrt ∷ es) l h = begun_between d n ks es l h
begun_between d n ks (Load i uls ult lrs lrt words rows stride start len ∷ es) l h = begun_between d n ks es l h
begun_between d n [] (Rect i ulx uly lrx lry uls ult dsdx dtdy row ∷ es) l h = absurd h
begun_between d n (k ∷ ks) (Rect i ulx uly lrx lry uls ult dsdx dtdy row ∷ es) l h = (between d k (ahead d k row ult n 0) (h.0 0 l.0.0), begun_between d (n + (lry - uly) / 4) ks es l.1 h.1)

-- demand 3, over all rectangles of a request's plan
pub drifts_between : (q : Request) → Apt q → AllBetween (drift_of q) (drifts_of q)
unfolding drifts_of
drifts_between q a =
    rw (eq-eqb q.opcode 9 a.scaled)
    (begun_between (drift_of q) 0 (strips_of (drift_of q)) (plan_of q).entries (drawn_entries q a.scaled) (demand3 q a))

first_between : (d : Drift) (n : ℕ) (bs : List Begun) → AllBetween d bs → AllBetween d (take n bs)
first_between d zero bs a = tt
first_between d (suc n) [] a = tt
first_between d (suc n) (b ∷ bs) a = (a.0, first_between d n bs a.1)

-- ---- what the exported function tells

-- the tests are the conditions
apt_is : (q : Request) → apt q ≡ true → Apt q
unfolding apt
apt_is q e =
    let d = drift_of q in
    let a = and_parts _ _ e in
    let b = and_parts _ _ a.1 in
    record { scaled = eqb-true q.opcode 9 a.0; rows = eqb-true (d.image_h % 4) 0 b.0; below = omega (zarith, b.1) }

flagged : (t u : Bool) → ◌≡◌ {A = ℕ} (cond (t && u) 1 0) 1 → t ≡ true
flagged true u e = refl
flagged false u e = absurd (omega arith)

-- where the second word told is 1, each rectangle in the words of `drift` lies between its limits
pub told_between : (object request drift told : List ℕ) → length request ≡ 7 → length told ≡ 2 → get_or (host_drift object request drift told).told 1 0 ≡ 1 → AllBetween (drift_of (host_request object request)) (shown_of (host_request object request) drift)
unfolding host_drift measured_of
told_between object request drift told l m e =
    let q = host_request object request in
    let f = rw (eq-eqb (length request) 7 l, eq-eqb (length told) 2 m) at e in
    first_between (drift_of q) (length drift / 5) (drifts_of q) (drifts_between q (apt_is q (flagged (apt q) (set_up q) f)))
