-- A strip's rectangle and load show at each of its cells the column and row that the frame's numbers say. A remainder moves along with the cell as long as it stays below the modulus, which the strip's bounds say; and a rectangle's first texel fits its 16 bits, which for a flipped strip needs a load of at most 1,024 columns.
-- Assumes nothing.
use Rattle.std.specs.Prelude.{◌≡◌, refl, Bool, true, false, cond, ℕ, suc, ◌+◌, ◌-◌, ◌*◌, ◌≤◌, ◌<◌, min, ℤ, pos, negsuc, neg_ℤ, ◌+ℤ◌, ◌*ℤ◌}
use Rattle.std.proofs.Common.{sym, ap, ◌∙◌, arith, SFits, w16, to_z}
use Rattle.std.proofs.lemmas.Int.{to_z-of_z}
use Rattle.signed.specs.Diff.{up, dn, zdiff, zparts, zarith}
use Rattle.signed.specs.Floor.{floor_div, modulo, modulo_lt, floor_is, unique}
use Rattle.signed.specs.Word.{bits_modulo}
use Rattle.signed.specs.Cast.{i16}
use Rattle.plan.specs.declared.types.Copy.{Copy}
use Rattle.plan.specs.declared.types.Strip.{Strip}
use Rattle.plan.specs.Copy.{column, strip_of, strip_row_of, strip_height_of}
use Rattle.plan.specs.Sound.{SoundCopy}
use Rattle.strips.specs.Strip.{width_of, left_of, strip_bounds, aligned_is, height_in}
use Rattle.copy.specs.Walk.{place_at, first_texel}
use Rattle.cells.specs.Shown.{Loaded, numbered, Look, FromLoad, Claimed}
use Rattle.cells.proofs.Loads.{load_bounds}
use Rattle.cells.proofs.Shown.{look_of}

-- ---- a remainder moved along

-- r is z' modulo m where it is below m, and as far from z modulo m as z' is from z
moved : (z z' : ℤ) (m r : ℕ) → r < m → up z' + dn z + modulo z m ≡ up z + dn z' + r → modulo z' m ≡ r
moved z z' m r h e = sym (unique z' m (floor_div z m) r h (omega (arith, floor_is z m (omega arith)))).rest

-- ---- a rectangle's first texel

own : (z : ℤ) → SFits w16 z → i16 z ≡ z
own z f = ap (to_z w16) (sym (bits_modulo w16 z f)) ∙ to_z-of_z w16 z f

-- so many texels to the right, or back from the load's end
plain_texel : (n : ℕ) → n ≤ 15 → floor_div (first_texel false 0 n) 32 ≡ pos n
plain_texel n h = ap (λ (z : ℤ). floor_div z 32) (own (pos (n * 32)) (omega zarith)) ∙ ap pos (omega arith)

flipped_texel : (n o : ℕ) → n < 1024 → floor_div (first_texel true (suc n) o) 32 ≡ negsuc n
flipped_texel n o h =
    let e : neg_ℤ (pos (suc n)) *ℤ pos 32 ≡ negsuc (n * 32 + 31) = simp zdiff (omega zarith) in
    ap (λ (z : ℤ). floor_div (i16 z) 32) e ∙ ap (λ (z : ℤ). floor_div z 32) (own (negsuc (n * 32 + 31)) (omega zarith)) ∙ ap negsuc (omega arith)

back : (n k : ℕ) → k ≤ n → negsuc n +ℤ pos k ≡ negsuc (n - k)
back n k h = simp zdiff (omega zarith)

-- ---- a strip's columns

module _ (c : Copy) (s : SoundCopy c) (x : ℕ) (h : x < c.width) where
  abbrev strip : Strip
  strip = strip_of c x

  -- the image column of the strip's first cell, and its least column
  abbrev first : ℕ
  first = modulo (column c x) c.image_width

  abbrev least : ℕ
  least = left_of c first (width_of c x first)

  record Columns : Type 0 where
    aligned : strip.aligned_left + strip.offset ≡ least
    load : strip.load_width ≡ strip.offset + strip.strip_width
    plain : c.flip ≡ false → (least ≡ first) × (first + strip.strip_width ≤ c.image_width)
    turned : c.flip ≡ true → least + strip.strip_width ≡ first + 1

  columns_of : Columns
  unfolding strip_of
  columns_of =
      let a = aligned_is c least s in
      let l = modulo_lt (column c x) s.image_width in
      record {
        aligned = omega arith;
        load = refl;
        plain = λ t. (
          ap (λ (f : Bool). cond f (first + 1 - width_of c x first) first) t,
          (let w : width_of c x first ≡ min (c.width - x) (c.image_width - first) = ap (λ (f : Bool). min (c.width - x) (cond f (first + 1) (c.image_width - first))) t in omega arith),
        );
        turned = λ t.
            let w : width_of c x first ≡ min (c.width - x) (first + 1) = ap (λ (f : Bool). min (c.width - x) (cond f (first + 1) (c.image_width - first))) t in
            let e : least ≡ first + 1 - width_of c x first = ap (λ (f : Bool). cond f (first + 1 - width_of c x first) first) t in
            omega arith;
      }

  -- ---- cell k of the strip

  -- the column before the wrap goes up with the cell, or down
  ahead : (k : ℕ) → c.flip ≡ false → up (column c (x + k)) + dn (column c x) ≡ up (column c x) + dn (column c (x + k)) + k
  ahead k t = rw t (omega arith)

  behind : (k : ℕ) → c.flip ≡ true → up (column c (x + k)) + dn (column c x) + k ≡ up (column c x) + dn (column c (x + k))
  behind k t = rw t (simp zdiff (simp zparts (omega zarith)))

  module _ (k : ℕ) (l : k < strip.strip_width) where
    plain_column : c.flip ≡ false → modulo (column c (x + k)) c.image_width ≡ first + k
    plain_column t = let q = columns_of.plain t in moved (column c x) (column c (x + k)) c.image_width (first + k) (omega arith) (omega (arith, ahead k t))

    turned_column : c.flip ≡ true → modulo (column c (x + k)) c.image_width ≡ first - k
    turned_column t =
        let q = columns_of.turned t in
        let m = modulo_lt (column c x) s.image_width in
        moved (column c x) (column c (x + k)) c.image_width (first - k) (omega arith) (omega (arith, behind k t))

    -- the number of the load that the rectangle shows there
    abbrev number : ℤ
    number = floor_div (first_texel c.flip strip.load_width strip.offset) 32 +ℤ pos k

    -- as a column it is the frame's, and one of the load's
    record ShownColumn (m : Loaded) : Type 0 where
      is : numbered m number ≡ modulo (column c (x + k)) c.image_width
      loaded : numbered m number < strip.aligned_left + strip.load_width

    shown_column : (m : Loaded) → m.column ≡ strip.aligned_left → (c.flip ≡ true → strip.load_width ≤ 1024) → ShownColumn m
    shown_column m f w = by c.flip refl
      where
        by : (t : Bool) → c.flip ≡ t → ShownColumn m
        by false t =
            let p = columns_of.plain t in
            let a = columns_of.aligned in
            let d = columns_of.load in
            let e : numbered m number ≡ m.column + (strip.offset + k) =
            ap (λ (g : Bool). numbered m (floor_div (first_texel g strip.load_width strip.offset) 32 +ℤ pos k)) t
            ∙ ap (λ (z : ℤ). numbered m (z +ℤ pos k)) (plain_texel strip.offset (strip_bounds c x s h).offset) in
            record { is = e ∙ omega arith ∙ sym (plain_column t); loaded = omega (arith, e) }
        by true t =
            let p = columns_of.turned t in
            let a = columns_of.aligned in
            let d = columns_of.load in
            let n = w t in
            let b = (strip_bounds c x s h).load in
            let last : strip.load_width ≡ suc (strip.load_width - 1) = omega arith in
            let e : numbered m number ≡ m.column + (strip.load_width - 1 - k) =
            ap (λ (g : Bool). numbered m (floor_div (first_texel g strip.load_width strip.offset) 32 +ℤ pos k)) t
            ∙ ap (λ (v : ℕ). numbered m (floor_div (first_texel true v strip.offset) 32 +ℤ pos k)) last
            ∙ ap (λ (z : ℤ). numbered m (z +ℤ pos k)) (flipped_texel (strip.load_width - 1) strip.offset (omega arith))
            ∙ ap (numbered m) (back (strip.load_width - 1) k (omega arith))
            ∙ omega arith in
            record { is = e ∙ omega arith ∙ sym (turned_column t); loaded = omega (arith, e) }

-- ---- what a strip shows at its cell k and line j

pub record Seen (c : Copy) (x y k j : ℕ) (l : Look) : Type 0 where
  pub row : l.row ≡ strip_row_of c (y + j)
  pub column : Claimed c l → l.column ≡ modulo (column c (x + k)) c.image_width
  pub loaded : Claimed c l → FromLoad l

pub seen : (c : Copy) (x y k j : ℕ) → SoundCopy c → x < c.width → y < c.height → k < (strip_of c x).strip_width → j < strip_height_of c y → Seen c x y k j (look_of (place_at c x y (strip_row_of c y) (strip_height_of c y)) k j)
seen c x y k j s h g m n =
    let t = load_bounds c x y s h g in
    let b = (strip_bounds c x s h).load in
    let r = height_in c y s g in
    let l = look_of (place_at c x y (strip_row_of c y) (strip_height_of c y)) k j in
    let wide : l.load.columns ≡ (strip_of c x).load_width = omega (arith, t.left, t.right) in
    let shown = λ (w : Claimed c l). shown_column c s x h k m l.load t.left (λ f. let v = w f in omega arith) in
    record {
      row = omega (arith, t.top, moved (pos (c.source_y + y)) (pos (c.source_y + (y + j))) c.image_height (strip_row_of c y + j) (omega arith) (omega arith));
      column = λ w. (shown w).is;
      loaded = λ w. let v = (shown w).loaded in record { column = omega (arith, t.left, wide); row = omega (arith, t.top, t.bottom) };
    }
