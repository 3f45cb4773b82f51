-- What measures the plan, or nothing.
use Rattle.std.proofs.Common.{◌≡◌, refl, ap, ◌∙◌, Bool, true, false, ℕ, cond}
use mir.Val.{bool_byte}
use Rattle.measuring.proofs.Left.{nothing_left, measured_left}
use Rattle.measuring.proofs.measured.Goals as goal

-- a test as a word
flag : (b : Bool) → ◌≡◌ {A = ℕ} (bool_byte b) (cond b 1 0)
flag true = refl
flag false = refl

pub returns-in-Some : goal.returns-in-Some
returns-in-Some c = measured_left _ _ c.in-Some.ensures _ _ _ _ (rw c.fresh-p.ensures.coming at c.fill-n.ensures) (c.from-apt.ensures ∙ flag _ ∙ ap (λ (b : Bool). cond b 1 0) c.apt.ensures)

pub returns-in-None : goal.returns-in-None
returns-in-None c = nothing_left _ _ c.in-None.ensures.0 c.in-None.ensures.1
