-- What a column and a line promise of the bytes that they are written into.
-- Assumes nothing.
use Rattle.std.specs.Prelude.{◌≡◌, List, [], ◌∷◌, ◌++◌, ℕ, ◌+◌, ◌-◌, ◌≤◌, length, take, drop, replicate}
use Rattle.lines.specs.Text.{space, digits_of}

-- bytes, with a text at a place of theirs
unfoldable pub with_text : List ℕ → (at : ℕ) → (text : List ℕ) → List ℕ
with_text out at text = take at out ++ (text ++ drop (at + length text) out)

-- a text is put at a place, and r is the place after it
pub record PutIs (out : List ℕ) (at : ℕ) (text out' : List ℕ) (r : ℕ) : Type 0 where
  pub next : r ≡ at + length text
  pub is : out' ≡ with_text out at text

-- blanks for a column
pub record Blank (out : List ℕ) (at w : ℕ) : Type 0 where
  pub room : at + w ≤ length out
  pub blank : take w (drop at out) ≡ replicate w space

-- a number's digits are put before a place, and r is where they begin
pub record DigitsIs (out : List ℕ) (at end n : ℕ) (out' : List ℕ) (r : ℕ) : Type 0 where
  pub first : r + length (digits_of (end - at) n) ≡ end
  pub from : at ≤ r
  pub is : out' ≡ with_text out r (digits_of (end - at) n)

-- the places of a row
unfoldable pub total_of : List ℕ → ℕ
total_of [] = 0
total_of (w ∷ ws) = w + total_of ws
