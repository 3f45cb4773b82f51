-- Where the code says it in the Rust's words and the table in others: each rewording, as a law.
-- Assumes nothing.
use Rattle.std.specs.Prelude.{◌≡◌, refl, Bool, true, false, not, ℕ, ◌+◌, ◌*◌, ◌/◌, ◌%◌, ◌^◌, ◌<◌, ltb, eqb}
use Rattle.std.proofs.Common.{ap, ◌∙◌, arith, ltb-true, ltb-false, eq-eqb, ne_eqb}
use Rattle.std.specs.Int.Bits.{bit_and, bit_or}
use Rattle.std.proofs.lemmas.Nat.Bits.{and_high}
use Rattle.std.proofs.lemmas.Nat.{or_shifted}

-- `n / 4 == 0` is n < 4: rows, image_width, image_height
none_by : (t : Bool) (n : ℕ) → ltb n 4 ≡ t → eqb (n / 4) 0 ≡ t
none_by true n e = let h = ltb-true n 4 e in eq-eqb (n / 4) 0 (omega arith)
none_by false n e = let h = ltb-false n 4 e in ne_eqb (n / 4) 0 (λ z. omega arith)

pub none : (n : ℕ) → eqb (n / 4) 0 ≡ ltb n 4
none n = none_by (ltb n 4) n refl

-- `flip & !1 != 0` is flip > 1, of 16 bits
cleared : (n : ℕ) → n < 2 ^ 16 → bit_and n 0xfffe ≡ n / 2 * 2
cleared n h = and_high n 15 1 ∙ omega arith

high_by : (t : Bool) (n : ℕ) → n < 2 ^ 16 → ltb 1 n ≡ t → not (eqb (n / 2 * 2) 0) ≡ t
high_by true n h e = let l = ltb-true 1 n e in ap not (ne_eqb (n / 2 * 2) 0 (λ z. omega arith))
high_by false n h e = let l = ltb-false 1 n e in ap not (eq-eqb (n / 2 * 2) 0 (omega arith))

pub high : (n : ℕ) → n < 2 ^ 16 → not (eqb (bit_and n 0xfffe) 0) ≡ ltb 1 n
high n h = ap (λ (k : ℕ). not (eqb k 0)) (cleared n h) ∙ high_by (ltb 1 n) n h refl

-- `(tmem_size << 16) | tmem_load_sh`, of 32 bits
pub product : (a b : ℕ) → a < 2 ^ 16 → b < 2 ^ 16 → bit_or (a * 65536 % 2 ^ 32) b ≡ a * 65536 + b
product a b h l =
    let e : a * 65536 % 2 ^ 32 ≡ a * 65536 = omega arith in
    rw e (or_shifted a 16 b l)
