-- The strips that draw, pass by pass, over the numbers that the code keeps.
-- Assumes nothing.
use Rattle.std.proofs.Common.{◌≡◌, refl, sym, ap, ◌∙◌, Bool, true, false, List, [], ◌∷◌, ℕ, zero, suc, ◌+◌, ◌-◌, ◌/◌, ◌%◌, ◌≤◌, ◌<◌, arith, ltb, ℤ, pos, ◌+ℤ◌, ◌-ℤ◌}
use Rattle.std.specs.Int.Signed.{lt_z}
use borrow.Author.Tests.{lt-ltb, eq-eqb, ne_eqb, ltb-true, ltb-false}
use Rattle.signed.specs.Diff.{zdiff, zarith}
use Rattle.plan.specs.Demand.{strips}
use Rattle.ruler.specs.declared.types.Place.{Place}
use Rattle.ruler.specs.Drifts.{strips_from, idle_from, NextAt}

-- no line is left, or no pass
strips_over : (n f : ℕ) (k left count : ℤ) → lt_z (pos 0) left ≡ false → strips n f k left count ≡ []
unfolding strips
strips_over zero f k left count e = refl
strips_over (suc n) f k left count e = rw (e, strips)

pub none_left : (n f : ℕ) (k : ℤ) (left : ℕ) (count : ℤ) → left ≡ 0 → strips n f k (pos left) count ≡ []
none_left n f k left count e = strips_over n f k (pos left) count (rw e)

-- a strip draws no more than the lines that are left
cut_at : (t : Bool) (n f : ℕ) (k : ℤ) (a b : ℕ) (count : ℤ) → ltb a b ≡ t → strips n f k (pos a -ℤ pos b) count ≡ strips n f k (pos (a - b)) count
cut_at true n f k a b count e =
    let h = ltb-true a b e in
    let below : lt_z (pos 0) (pos a -ℤ pos b) ≡ false = over (lt_z (pos 0) (pos a -ℤ pos b)) refl h in
    strips_over n f k (pos a -ℤ pos b) count below ∙ sym (none_left n f k (a - b) count (omega arith))
  where
    over : (t : Bool) → lt_z (pos 0) (pos a -ℤ pos b) ≡ t → a < b → lt_z (pos 0) (pos a -ℤ pos b) ≡ false
    over false e h = e
    over true e h = let g = simp zdiff at e in absurd (omega zarith)
cut_at false n f k a b count e =
    let h = ltb-false a b e in
    let s : pos a -ℤ pos b ≡ pos (a - b) = simp zdiff (omega zarith) in
    ap (λ (z : ℤ). strips n f k z count) s

idle_at : (n f : ℕ) (k : ℤ) (left count : ℕ) → 1 ≤ n → 1 ≤ left → count ≤ 1023 → strips n f k (pos left) (pos count) ≡ strips (n - 1) f (k +ℤ pos 1) (pos left) (pos (count + f))
unfolding strips
idle_at zero f k left count h l c = absurd (omega arith)
idle_at (suc n) f k left count h l c = let e : suc n - 1 ≡ n = omega arith in rw (lt-ltb 0 left l, eq-eqb (count / 1024) 0 (omega arith), e, strips)

draw_at : (n f : ℕ) (k : ℤ) (left count : ℕ) → 1 ≤ n → 1 ≤ left → 1024 ≤ count → strips n f k (pos left) (pos count) ≡ k ∷ strips (n - 1) f (k +ℤ pos 1) (pos (left - count / 1024)) (pos (count % 1024 + f))
unfolding strips
draw_at zero f k left count h l c = absurd (omega arith)
draw_at (suc n) f k left count h l c =
    let e : suc n - 1 ≡ n = omega arith in
    rw (lt-ltb 0 left l, ne_eqb (count / 1024) 0 (λ e. omega arith), e, strips)
    (ap (λ (ks : List ℤ). k ∷ ks) (cut_at (ltb left (count / 1024)) n f (k +ℤ pos 1) left (count / 1024) (pos (count % 1024 + f)) refl))

-- passes without a line: the same strips are to come
pub record Idled (f : ℕ) (p s : Place) : Type 0 where
  pub same : strips_from f p ≡ strips_from f s
  pub idle : ℕ
  pub at : s.k ≡ p.k +ℤ pos idle
  pub few : idle + s.fuel ≡ p.fuel
  pub left : 1 ≤ s.left
  pub earlier : s.earlier ≡ p.earlier

pub idled_start : (f : ℕ) (p : Place) → 1 ≤ p.left → Idled f p p
idled_start f p l = let e : p.k ≡ p.k +ℤ pos 0 = simp zdiff (omega zarith) in record { same = refl; idle = 0; at = e; few = omega arith; left = l; earlier = refl }

pub idled_more : (f : ℕ) (p s : Place) → 1 ≤ s.fuel → s.count ≤ 1023 → Idled f p s → Idled f p (idle_from f s)
idled_more f p s h c d =
    let e = d.at in
    let n = d.few in
    let g : s.k +ℤ pos 1 ≡ p.k +ℤ pos (d.idle + 1) = rw e (simp zdiff (omega zarith)) in
    record { same = d.same ∙ idle_at s.fuel f s.k s.left s.count h d.left c; idle = d.idle + 1; at = g; few = omega arith; left = d.left; earlier = d.earlier }

pub idled_next : (f : ℕ) (p s : Place) → 1 ≤ s.fuel → 1024 ≤ s.count → Idled f p s → NextAt f p s
idled_next f p s h c d =
    let n = d.few in
    record { strips = d.same ∙ draw_at s.fuel f s.k s.left s.count h d.left c; idle = d.idle; at = d.at; few = omega arith; fuel = h; earlier = d.earlier }

pub idled_over : (f : ℕ) (p s : Place) → s.fuel ≡ 0 → Idled f p s → strips_from f p ≡ []
unfolding strips
idled_over f p s e d = d.same ∙ ap (λ (n : ℕ). strips n f s.k (pos s.left) (pos s.count)) e
