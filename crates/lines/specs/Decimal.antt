-- What is written can be read: the digits of a number that fits its places say that number.
-- Assumes nothing.
use Rattle.std.specs.Prelude.{◌≡◌, refl, Bool, true, false, cond, List, [], ◌∷◌, ◌++◌, ℕ, zero, suc, ◌+◌, ◌-◌, ◌*◌, ◌/◌, ◌%◌, ◌^◌, ◌<◌, leb}
use Rattle.std.proofs.Common.{◌∙◌, div-add-mod', arith, leb-false}
use Rattle.std.proofs.Math.Nat.{pow-succ'}
use Rattle.lines.specs.Text.{digits_of}

-- the number that digits say, after others that say n
unfoldable pub said_after : ℕ → List ℕ → ℕ
said_after n [] = n
said_after n (d ∷ ds) = said_after (n * 10 + (d - 48)) ds

said_last : (n : ℕ) (ds : List ℕ) (d : ℕ) → said_after n (ds ++ d ∷ []) ≡ said_after n ds * 10 + (d - 48)
unfolding said_after
said_last n [] d = refl
said_last n (x ∷ ds) d = said_last (n * 10 + (x - 48)) ds d

either_say : (t : Bool) (ds : List ℕ) (n : ℕ) → leb 10 n ≡ t → said_after 0 ds ≡ n / 10 → said_after 0 (cond t ds []) ≡ n / 10
unfolding said_after
either_say true ds n e h = h
either_say false ds n e h = omega (arith, leb-false 10 n e, div-add-mod' n 10)

-- w places hold every number below 10^w
pub digits_say : (w n : ℕ) → n < 10 ^ w → said_after 0 (digits_of w n) ≡ n
unfolding digits_of said_after
digits_say zero n h = omega arith
digits_say (suc w) n h =
    let front = cond (leb 10 n) (digits_of w (n / 10)) [] in
    let few : n / 10 < 10 ^ w = omega (arith, h, pow-succ' 10 w, div-add-mod' n 10) in
    said_last 0 front (48 + n % 10) ∙ omega (arith, either_say (leb 10 n) (digits_of w (n / 10)) n refl (digits_say w (n / 10) few), div-add-mod' n 10)
