-- Each load of a copy plan lies inside the image, and its line times its rows is at most the capacity: by the bounds of its strip, and since the strip fits.
-- Assumes nothing.
use Rattle.std.specs.Prelude.{◌≡◌, refl, false, Option, Some, None, List, [], ◌∷◌, ℕ, ◌+◌, ◌-◌, ◌*◌, ◌%◌, ◌^◌, ◌≤◌, ◌<◌}
use Rattle.std.proofs.Common.{sym, subst, arith, ltb-false}
use Rattle.measures.specs.Measure.{texels}
use Rattle.plan.specs.declared.types.Copy.{Copy}
use Rattle.plan.specs.Copy.{bound, strip_of, strip_row_of, strip_height_of}
use Rattle.plan.specs.Sound.{SoundCopy}
use Rattle.load_tile.specs.Load.{rows_of}
use Rattle.strips.specs.Strip.{strip_bounds, height_in}
use Rattle.copy.specs.declared.types.Place.{Place}
use Rattle.copy.specs.Walk.{place_at, image_entry, area_of, too_big}
use Rattle.cells.specs.Places.{places_of, All, InFrame}
use Rattle.cells.specs.Given.{entries_of}
use Rattle.cells.specs.Met.{LoadInside, LoadsInside}
use Rattle.cells.proofs.Places.{places_in}

-- a bound of an image's texel, read back
bound_texel : (n : ℕ) → n ≤ 16383 → texels (bound n) ≡ n
bound_texel n h = omega arith

-- the bounds of a place's load, in texels
pub record LoadBounds (p : Place) : Type 0 where
  pub left : texels (area_of p).uls ≡ p.strip.aligned_left
  pub right : texels (area_of p).lrs ≡ p.strip.aligned_left + p.strip.load_width - 1
  pub top : texels (area_of p).ult ≡ p.sy
  pub bottom : texels (area_of p).lrt ≡ p.sy + p.strip_height - 1

pub load_bounds : (c : Copy) (x y : ℕ) → SoundCopy c → x < c.width → y < c.height → LoadBounds (place_at c x y (strip_row_of c y) (strip_height_of c y))
load_bounds c x y s h k =
    let b = strip_bounds c x s h in
    let r = height_in c y s k in
    record {
      left = bound_texel (strip_of c x).aligned_left (omega (arith, s.image_width'));
      right = bound_texel ((strip_of c x).aligned_left + (strip_of c x).load_width - 1) (omega (arith, s.image_width'));
      top = bound_texel (strip_row_of c y) (omega (arith, s.image_height'));
      bottom = bound_texel (strip_row_of c y + strip_height_of c y - 1) (omega (arith, s.image_height'));
    }

-- what is claimed of a place's load, with its own line before it
abbrev Inside : Copy → Place → Type 0
Inside c p = LoadInside c.image_width c.image_height c.capacity (p.strip.line % 2 ^ 16) (area_of p).uls (area_of p).ult (area_of p).lrs (area_of p).lrt (rows_of (area_of p).ult (area_of p).lrt)

module _ (c : Copy) (s : SoundCopy c) where
  load_inside : (p : Place) → InFrame c 0 p → too_big p ≡ false → Inside c p
  load_inside p r t = subst (λ (q : Place). too_big q ≡ false → Inside c q) (sym r.is) inside t
    where
      inside : too_big (place_at c p.x p.y (strip_row_of c p.y) (strip_height_of c p.y)) ≡ false → Inside c (place_at c p.x p.y (strip_row_of c p.y) (strip_height_of c p.y))
      inside f =
          let b = strip_bounds c p.x s r.within in
          let k = height_in c p.y s r.above in
          let strip = strip_of c p.x in
          let sy = strip_row_of c p.y in
          let h = strip_height_of c p.y in
          let t = load_bounds c p.x p.y s r.within r.above in
          let rows : rows_of (bound sy) (bound (sy + h - 1)) ≡ h = omega (arith, t.top, t.bottom) in
          let line : strip.line % 2 ^ 16 ≡ strip.line = omega arith in
          let words : strip.line % 2 ^ 16 * rows_of (bound sy) (bound (sy + h - 1)) ≡ strip.line * h = rw (line, rows) refl in
          record {
            left = omega (arith, t.left, t.right);
            right = omega (arith, t.right);
            top = omega (arith, t.top, t.bottom);
            bottom = omega (arith, t.bottom);
            height = omega (arith, t.top, t.bottom);
            fits = omega (arith, words, ltb-false c.capacity (strip.line * h) f);
          }

  loads_inside : (l : Option ℕ) (ps : List Place) → All (InFrame c 0) ps → All (λ p. too_big p ≡ false) ps → LoadsInside c.image_width c.image_height c.capacity l (entries_of ps)
  unfolding entries_of
  loads_inside l [] h k = tt
  loads_inside l (p ∷ ps) h k = (load_inside p h.0 k.0, loads_inside (Some (p.strip.line % 2 ^ 16)) ps h.1 k.1)

  pub plan_loads : All (λ p. too_big p ≡ false) (places_of c) → LoadsInside c.image_width c.image_height c.capacity None (image_entry c ∷ entries_of (places_of c))
  plan_loads h = loads_inside None (places_of c) (places_in c) h
