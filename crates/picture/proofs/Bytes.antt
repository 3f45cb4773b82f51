-- The bytes of a picture's object decode to its fields: a field reads as the number that its bytes were made of, and constants compute.
-- Assumes nothing.
use Rattle.std.specs.Prelude.{◌≡◌, refl, true, false, List, [], ◌∷◌, ◌++◌, ℕ, ◌*◌, ◌/◌, ◌%◌, ◌^◌, ◌<◌, length}
use Rattle.std.specs.Int.{w16, w32, to_be_bytes}
use Rattle.std.proofs.Common.{arith, le-ltb}
use Rattle.object.specs.Layout.{layout, read, value_of, decode}
use Rattle.checks.specs.Check.{short}
use Rattle.picture.specs.Writer.{object_with, copy_bytes}
use Rattle.picture.specs.Parts.{Fits}

read_byte : (v : ℕ) → read (v ∷ []) 0 1 ≡ v
unfolding read
read_byte v = omega arith

read_half : (v : ℕ) → v < 2 ^ 16 → read (to_be_bytes w16 v) 0 2 ≡ v
unfolding read
read_half v h = omega arith

read_word : (v : ℕ) → v < 2 ^ 32 → read (to_be_bytes w32 v) 0 4 ≡ v
unfolding read
read_word v h = omega arith

module _ (w h f z p l r : ℕ) (rest : List ℕ) where
  abbrev bytes : List ℕ
  bytes = copy_bytes (object_with w h f z p l r) ++ rest

  -- none is missing
  pub whole : short 4 10 bytes ≡ false
  unfolding copy_bytes
  whole = le-ltb (length bytes) 40 (omega arith)

  -- whatever stands after them
  pub decode_bytes : Fits w h l r → p < 2 ^ 32 → decode 4 true bytes ≡ object_with w h f z p l r
  unfolding decode value_of layout copy_bytes read
  decode_bytes s k =
      rw (
        read_half (w * 4) (omega (arith, s.width)),
        read_half (h * 4) (omega (arith, s.height)),
        read_word p k,
        read_byte f,
        read_byte z,
        read_half (r * 4) (omega (arith, s.rows)),
        read_half (r * 4 * l % 65536) (omega arith),
        read_half l (omega (arith, s.line)),
        read_half (r * 4 * l / 65536) (omega (arith, s.product)),
      )
      refl
