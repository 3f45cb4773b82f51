-- Where the image begins again: the column after a strip that reaches its end, and the row after a row of strips.
-- Assumes nothing.
use Rattle.std.specs.Prelude.{◌≡◌, Bool, true, false, cond, ℕ, ◌+◌, ◌-◌, ◌%◌, ◌<◌, ℤ, pos, ◌+ℤ◌, ◌-ℤ◌}
use Rattle.std.proofs.Common.{sym, ap, ◌∙◌, arith}
use Rattle.std.proofs.Math.Nat.{mod-add-mod}
use Rattle.signed.specs.Diff.{zdiff, zarith}
use Rattle.signed.specs.Floor.{floor_div, modulo, modulo_lt, floor_mod, floor_unique}
use Rattle.plan.specs.declared.types.Copy.{Copy}
use Rattle.plan.specs.Copy.{column, strip_of, strip_row_of}
use Rattle.plan.specs.Sound.{SoundCopy}
use Rattle.counting.specs.Count.{wrap_column}

-- up to the end of the image, or down to its start
wrap_up : (z : ℤ) (m : ℕ) → 0 < m → modulo (z +ℤ pos (m - modulo z m)) m ≡ 0
wrap_up z m h =
    let r = modulo_lt z h in
    let k = simp zdiff at (floor_mod z m h) in
    sym (floor_unique (z +ℤ pos (m - modulo z m)) m (floor_div z m +ℤ pos 1) 0 h (simp zdiff (omega zarith))).rest

wrap_down : (z : ℤ) (m : ℕ) → 0 < m → modulo (z -ℤ pos (modulo z m + 1)) m ≡ m - 1
wrap_down z m h =
    let k = simp zdiff at (floor_mod z m h) in
    sym (floor_unique (z -ℤ pos (modulo z m + 1)) m (floor_div z m -ℤ pos 1) (m - 1) (omega arith) (simp zdiff (omega zarith))).rest

-- the column after a strip, whichever way the frame runs
from_wrap : (flip : Bool) (a b n m w : ℕ) → 0 < m → w ≡ cond flip (modulo (cond flip (pos a -ℤ pos b) (pos n)) m + 1) (m - modulo (cond flip (pos a -ℤ pos b) (pos n)) m)
    → modulo (cond flip (pos a -ℤ pos (b + w)) (pos (n + w))) m ≡ cond flip (m - 1) 0
from_wrap true a b n m w h e =
    let z : pos a -ℤ pos (b + w) ≡ (pos a -ℤ pos b) -ℤ pos (modulo (pos a -ℤ pos b) m + 1) = rw e (simp zdiff (omega zarith)) in
    ap (λ (v : ℤ). modulo v m) z ∙ wrap_down (pos a -ℤ pos b) m h
from_wrap false a b n m w h e = ap (λ (k : ℕ). (n + k) % m) e ∙ wrap_up (pos n) m h

-- a strip that leaves a cell to its right has reached the end of the image
pub strip_wrapped : (c : Copy) (x : ℕ) → SoundCopy c → x + (strip_of c x).strip_width < c.width → modulo (column c (x + (strip_of c x).strip_width)) c.image_width ≡ wrap_column c
unfolding strip_of
strip_wrapped c x s k =
    let w = (strip_of c x).strip_width in
    let back : 1 + c.x_skip + (x + w) ≡ 1 + c.x_skip + x + w = omega arith in
    let on : c.source_x + c.x_skip + (x + w) ≡ c.source_x + c.x_skip + x + w = omega arith in
    let e : w ≡ cond c.flip (modulo (column c x) c.image_width + 1) (c.image_width - modulo (column c x) c.image_width) = omega arith in
    rw (back, on) (from_wrap c.flip (c.source_x + c.frame_cells) (1 + c.x_skip + x) (c.source_x + c.x_skip + x) c.image_width w s.image_width e)

-- the row below a row of strips
pub row_below : (c : Copy) (y h : ℕ) → (strip_row_of c y + h) % c.image_height ≡ strip_row_of c (y + h)
row_below c y h = let k : c.source_y + y + h ≡ c.source_y + (y + h) = omega arith in mod-add-mod (c.source_y + y) c.image_height h ∙ ap (λ (n : ℕ). n % c.image_height) k
