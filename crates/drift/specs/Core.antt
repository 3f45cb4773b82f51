-- The arithmetic of demand 3, over ℕ alone: how far a strip's first line is from its first row. D is docs/SPECIFICATION.md, section 11.
-- Assumes nothing.
use Rattle.std.specs.Prelude.{◌≡◌, ℕ, ◌+◌, ◌*◌, ◌<◌, ◌≤◌}
use Rattle.std.proofs.Common.{ap, arith, mul-le-mul_left, mul-le-mul_right}

-- `rows` and `lines` as factors: R × 2^20 = F × h + e, F × k = r + 1,024 × S
pub total : (f h e r s k rr : ℕ) → f * h + e ≡ rr * 1048576 → r + 1024 * s ≡ f * k → 1024 * (h * s) + (h * r + e * k) ≡ 1048576 * (rr * k)
total f h e r s k rr p q =
    let a : (f * h + e) * k ≡ rr * 1048576 * k = ap (λ (n : ℕ). n * k) p in
    let b : h * (r + 1024 * s) ≡ h * (f * k) = ap (λ (n : ℕ). h * n) q in
    omega arith

-- not far behind: D "d .. is at least −(h + 30)"
pub behind : (f h e r s k rr : ℕ) → f * h + e ≡ rr * 1048576 → r + 1024 * s ≡ f * k → h * s ≤ 1024 * (rr * k)
behind f h e r s k rr p q = omega (arith, total f h e r s k rr p q)

-- not far ahead: D "1,024 × d at most h × (1,024 + k)"
pub before : (f h e r s k rr : ℕ) → f * h + e ≡ rr * 1048576 → e < h → r + 1024 * s ≡ f * k → r < 1024 → 1048576 * (rr * k) ≤ 1024 * (h * s) + (1024 * h + h * k)
before f h e r s k rr p el q rl =
    let a : h * r ≤ h * 1024 = mul-le-mul_left h (omega arith) in
    let b : e * k ≤ h * k = mul-le-mul_right k (omega arith) in
    omega (arith, total f h e r s k rr p q)
