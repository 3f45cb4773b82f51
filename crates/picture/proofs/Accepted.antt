-- The numbers of a picture that is not refused: each test the other way round, and the strip that a capacity holds.
-- Assumes nothing.
use Rattle.std.specs.Prelude.{◌≡◌, refl, Bool, true, false, cond, ◌||◌, List, [], ◌∷◌, ◌++◌, ℕ, zero, suc, ◌+◌, ◌*◌, ◌/◌, ◌≤◌, ◌<◌, ltb, eqb}
use Rattle.std.proofs.Math.Bool.{or_assoc, or-false}
use Rattle.std.proofs.Common.{sym, ap, ◌∙◌, arith, ltb-false, div-le_self, div-mul-le_self, div-add-mod', le-div_iff_mul-le, mod-lt}
use Rattle.signed.specs.Bound.{or_false, some}
use Rattle.checks.specs.Check.{any}
use Rattle.plan.specs.Copy.{copy_capacity}
use Rattle.strips.specs.Strip.{line_of}
use Rattle.picture.specs.Writer.{format_faults, size_faults, picture_faults}

any_append : (ts us : List Bool) → any (ts ++ us) ≡ (any ts || any us)
any_append [] us = refl
any_append (t ∷ ts) us = ap (λ (b : Bool). t || b) (any_append ts us) ∙ sym (or_assoc t (any ts) (any us))

-- 11's conditions: those of the sides, or that of the line
pub picture_is : (w h f z : ℕ) → any (picture_faults w h f z) ≡ (any (size_faults w h) || ltb (copy_capacity f z) (line_of z w))
picture_is w h f z =
    let line = ltb (copy_capacity f z) (line_of z w) in
    any_append (size_faults w h) (line ∷ []) ∙ ap (λ (b : Bool). any (size_faults w h) || b) (or-false line)

-- a row of at least one texel has at least one word
pub line_some : (z w : ℕ) → z ≤ 3 → 1 ≤ w → 1 ≤ line_of z w
line_some zero w h k = omega arith
line_some (suc zero) w h k = omega arith
line_some (suc (suc zero)) w h k = omega arith
line_some (suc (suc (suc zero))) w h k = omega arith
line_some (suc (suc (suc (suc n)))) w h k = absurd (omega arith)

-- what the tests on format, size, width and height tell
pub record Sized (w h f z : ℕ) : Type 0 where
  pub fmt : f ≤ 4
  pub siz : z ≤ 3
  pub width : 1 ≤ w
  pub width' : w ≤ 16383
  pub height : 1 ≤ h
  pub height' : h ≤ 16383

pub sized : (w h f z : ℕ) → any (format_faults f z) ≡ false → any (size_faults w h) ≡ false → Sized w h f z
sized w h f z t u =
    let a = or_false (ltb 3 z) (ltb 4 f || false) t in
    let b = or_false (ltb 4 f) false a.1 in
    let c = or_false (eqb w 0) _ u in
    let d = or_false (ltb 16383 w) _ c.1 in
    let e = or_false (eqb h 0) _ d.1 in
    let g = or_false (ltb 16383 h) false e.1 in
    record { fmt = ltb-false 4 f b.0; siz = ltb-false 3 z a.0; width = some w c.0; width' = ltb-false 16383 w d.0; height = some h e.0; height' = ltb-false 16383 h g.0 }

-- and the test on its line
pub record Accepted (w h f z : ℕ) : Type 0 where
  pub sized : Sized w h f z
  pub line : line_of z w ≤ copy_capacity f z

-- the strip of a capacity and a line
pub record StripOf (c l : ℕ) : Type 0 where
  pub capacity : c ≤ 512
  pub line : 1 ≤ l
  pub rows : 1 ≤ c / l
  pub rows' : c / l ≤ 512
  pub product : c / l * l ≤ c
  pub more : c < (c / l + 1) * l

abbrev pub Strip : (w f z : ℕ) → Type 0
Strip w f z = StripOf (copy_capacity f z) (line_of z w)

capacity_in : (t : Bool) → cond t 256 512 ≤ 512
capacity_in true = omega arith
capacity_in false = omega arith

pub strip_in : (w h f z : ℕ) → Accepted w h f z → Strip w f z
strip_in w h f z a =
    let l = line_some z w a.sized.siz a.sized.width in
    let c = capacity_in (eqb f 2 || eqb z 3) in
    by (copy_capacity f z) (line_of z w) l a.line c
  where
    by : (c l : ℕ) → 1 ≤ l → l ≤ c → c ≤ 512 → StripOf c l
    by c l k m n =
        record {
          capacity = n;
          line = k;
          rows = (le-div_iff_mul-le {x = 1} {y = c} k).1 (omega arith);
          rows' = omega (arith, div-le_self c l);
          product = div-mul-le_self c l;
          more = omega (arith, div-add-mod' c l, mod-lt c k);
        }
