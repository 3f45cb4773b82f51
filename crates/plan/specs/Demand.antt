-- Demand 3: how far each line's sampled position is from the exact one. Only the statement, and a test that computes it. D is docs/SPECIFICATION.md, section 11.
-- Everything here is from the request; the plan's rectangles are only read.
-- Assumes nothing.
use Rattle.std.specs.Prelude.{◌≡◌, Bool, true, false, cond, ◌&&◌, List, [], ◌∷◌, ℕ, zero, suc, ◌+◌, ◌-◌, ◌*◌, ◌/◌, ◌%◌, ◌<◌, eqb, ℤ, pos, neg_ℤ, ◌+ℤ◌, ◌-ℤ◌, ◌*ℤ◌, ◌≤ℤ◌}
use Rattle.std.specs.Int.Signed.{lt_z, le_z}
use Rattle.signed.specs.Diff.{up}
use Rattle.signed.specs.Floor.{floor_div, modulo}
use Rattle.measures.specs.Measure.{quarters, thirty_seconds, texels, whole_rows, sampled_by, whole}
use Rattle.object.specs.Layout.{decode}
use Rattle.plan.specs.Request.{Request}
use Rattle.plan.specs.declared.types.Entry.{Entry}
use Rattle.plan.specs.declared.types.Entry.TheVariants.{Image, Tile, Size, Load, Rect}
use Rattle.plan.specs.Scaled.{clip_of, start_of, scaled_of, first_of}
use Rattle.plan.specs.Whole.{plan_of}

-- D "`carry`, `slice`, `source_rows`, R and each strip's k and `remain` are defined from the inputs"
pub record Drift : Type 0 where
  pub h : ℕ
  pub image_h : ℕ
  pub source_rows : ℕ
  pub image_rows : ℕ
  pub frame_rows : ℕ
  pub first_rows : ℤ
  pub carry : ℕ
  pub slice : ℤ
  pub count : ℤ
  pub lines : ℕ
  pub start : ℕ
  pub origin : ℤ

-- `start` is D's bracket without carry: "image_y, plus clipped top in units × h / 128 rounded down"; `first_rows` the rows of strip `slice` above the start
unfoldable pub drift_of : Request → Drift
drift_of q =
    let bg = decode 4 false q.bytes in
    let c = clip_of bg q.scissor in
    let i = start_of bg c in
    let z = scaled_of bg q.mode q.address c i in
    let f = first_of z i in
    record {
      h = z.scale_h.0;
      image_h = quarters bg.image_h;
      source_rows = z.source_rows;
      image_rows = z.image_rows;
      frame_rows = z.frame_rows;
      first_rows = whole f.image_hidden;
      carry = i.carry;
      slice = f.slice;
      count = f.count;
      lines = texels (quarters c.height);
      start = thirty_seconds bg.image_y + sampled_by (quarters c.top) z.scale_h.0;
      origin = bg.image_y_orig.0;
    }

-- D "Strip k is numbered from `slice` upward, passes without a line counted": the numbers of the strips that draw
unfoldable pub strips : ℕ → (frame_rows : ℕ) → (k frame_remain count : ℤ) → List ℤ
strips zero f k left count = []
strips (suc n) f k left count =
    let draw = up (whole count) in
    elim (lt_z (pos 0) left) [
      | true ↦ elim (eqb draw 0) [
        | true ↦ strips n f (k +ℤ pos 1) left (count +ℤ pos f)
        | false ↦ k ∷ strips n f (k +ℤ pos 1) (left -ℤ pos draw) (pos (modulo count 1024) +ℤ pos f)
      ]
      | false ↦ []
    ]

abbrev pub strips_of : Drift → List ℤ
strips_of d = strips (65 * d.lines) d.frame_rows d.slice (pos d.lines) d.count

-- D "1,024 × image row + 32 × ult + h × j"
abbrev pub sampled : Drift → (row : ℕ) → (ult : ℤ) → (j : ℕ) → ℤ
sampled d row ult j = pos (1024 * row) +ℤ pos 32 *ℤ ult +ℤ pos (d.h * j)

-- D "32 × (image_y, plus clipped top in units × h / 128 rounded down, plus 32 × `carry`) + h × (j plus the lines of earlier rectangles)"
abbrev pub exact : Drift → (earlier j : ℕ) → ℤ
exact d earlier j = pos (32 * (d.start + 32 * d.carry) + d.h * (j + earlier))

-- the whole images that strip k lies below the origin's: the m of D 11.7
abbrev pub wholes : Drift → (k : ℤ) → ℤ
wholes d k = floor_div (pos d.image_rows *ℤ k +ℤ whole_rows d.origin +ℤ pos d.carry +ℤ cond (le_z k d.slice) d.first_rows (pos 0)) d.source_rows

-- D "d = sampled − exact + 256 × image_h × m"
abbrev pub ahead : Drift → (k : ℤ) → (row : ℕ) → (ult : ℤ) → (earlier j : ℕ) → ℤ
ahead d k row ult earlier j = sampled d row ult j -ℤ exact d earlier j +ℤ pos (256 * d.image_h) *ℤ wholes d k

-- D "d .. is at least −(h + 30) where image_y_orig is a multiple of 32 and −(h + 1,022) where it is not": the limit behind
abbrev pub behind_of : Drift → ℤ
behind_of d = neg_ℤ (pos (d.h + cond (eqb (modulo d.origin 32) 0) 30 1022))

-- D "1,024 × d at most h × (1,024 + k)", rounded down to a whole d: the limit ahead
abbrev pub ahead_of : (h : ℕ) → (k : ℤ) → ℤ
ahead_of h k = floor_div (pos h *ℤ (pos 1024 +ℤ k)) 1024

-- the two limits, of a line of strip k whose distance is x; D "1,024 × d at most h × (1,024 + k)"
pub record Near (d : Drift) (k x : ℤ) : Type 0 where
  pub behind : behind_of d ≤ℤ x
  pub before : (pos 1024 *ℤ x) ≤ℤ (pos d.h *ℤ (pos 1024 +ℤ k))

-- D "A rectangle has floor((lry − uly) / 4) lines": each line of each rectangle is near, with the strips' numbers and the lines of earlier rectangles
abbrev pub AllNear : Drift → (earlier : ℕ) → List ℤ → List Entry → Type 0
AllNear d n ks [] = Unit {0}
AllNear d n ks (Image fmt siz width address ∷ es) = AllNear d n ks es
AllNear d n ks (Tile i fmt siz line tmem palette cms cmt masks maskt ∷ es) = AllNear d n ks es
AllNear d n ks (Size i uls ult lrs lrt ∷ es) = AllNear d n ks es
AllNear d n ks (Load i uls ult lrs lrt words rows stride start len ∷ es) = AllNear d n ks es
AllNear d n [] (Rect i ulx uly lrx lry uls ult dsdx dtdy row ∷ es) = ⊥
AllNear d n (k ∷ ks) (Rect i ulx uly lrx lry uls ult dsdx dtdy row ∷ es) =
    ((j : ℕ) → j < (lry - uly) / 4 → Near d k (ahead d k row ult n j)) × AllNear d (n + (lry - uly) / 4) ks es

-- the lines of a list's rectangles
unfoldable pub lines_in : List Entry → ℕ
lines_in [] = 0
lines_in (Image fmt siz width address ∷ es) = lines_in es
lines_in (Tile i fmt siz line tmem palette cms cmt masks maskt ∷ es) = lines_in es
lines_in (Size i uls ult lrs lrt ∷ es) = lines_in es
lines_in (Load i uls ult lrs lrt words rows stride start len ∷ es) = lines_in es
lines_in (Rect i ulx uly lrx lry uls ult dsdx dtdy row ∷ es) = (lry - uly) / 4 + lines_in es

-- D "Whole rows: image_h a multiple of 4. The start is at or below the origin when the bracket's first two terms add to at least image_y_orig"
pub record Apt (q : Request) : Type 0 where
  pub scaled : q.opcode ≡ 9
  pub rows : (drift_of q).image_h % 4 ≡ 0
  pub below : (drift_of q).origin ≤ℤ pos (drift_of q).start

-- demand 3, over the list of steps' entries
abbrev pub Demand3 : Type 0
Demand3 = (q : Request) → Apt q → AllNear (drift_of q) 0 (strips_of (drift_of q)) (plan_of q).entries

-- where a rectangle begins: its first line, its strip, and the distance there (the same for all lines of a rectangle)
pub record Begun : Type 0 where
  pub line : ℕ
  pub strip : ℤ
  pub distance : ℤ

-- the same of each rectangle, to compute with
unfoldable pub aheads : Drift → (earlier : ℕ) → List ℤ → List Entry → List Begun
aheads d n ks [] = []
aheads d n ks (Image fmt siz width address ∷ es) = aheads d n ks es
aheads d n ks (Tile i fmt siz line tmem palette cms cmt masks maskt ∷ es) = aheads d n ks es
aheads d n ks (Size i uls ult lrs lrt ∷ es) = aheads d n ks es
aheads d n ks (Load i uls ult lrs lrt words rows stride start len ∷ es) = aheads d n ks es
aheads d n [] (Rect i ulx uly lrx lry uls ult dsdx dtdy row ∷ es) = []
aheads d n (k ∷ ks) (Rect i ulx uly lrx lry uls ult dsdx dtdy row ∷ es) =
    record { line = n; strip = k; distance = ahead d k row ult n 0 } ∷ aheads d (n + (lry - uly) / 4) ks es

-- demand 3's conditions and limits as tests
unfoldable pub apt : Request → Bool
apt q = let d = drift_of q in eqb q.opcode 9 && (eqb (d.image_h % 4) 0 && le_z d.origin (pos d.start))

unfoldable pub all_near : Drift → List Begun → Bool
all_near d [] = true
all_near d (b ∷ bs) = le_z (behind_of d) b.distance && (le_z (pos 1024 *ℤ b.distance) (pos d.h *ℤ (pos 1024 +ℤ b.strip)) && all_near d bs)
