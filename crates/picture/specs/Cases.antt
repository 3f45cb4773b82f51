-- The writer computed: a picture of 16 by 2 texels, each refusal in its order, and the widest and the highest pictures.
-- Assumes nothing.
use Rattle.std.specs.Prelude.{◌≡◌, refl, Bool, true, ◌&&◌, ◌||◌, List, [], ◌∷◌, ℕ, eqb, replicate, T}
use Rattle.picture.specs.declared.types.Written.TheVariants as written
use Rattle.plan.specs.Check.{same}
use Rattle.picture.specs.Writer.{copy_bytes, written_number, wrote, wrote_of}

-- the byte behind the object stays
pub filled : wrote_of 16 2 0 2 0x80001000 (replicate 41 7)
    ≡ wrote written.Done (0 ∷ 0 ∷ 0 ∷ 64 ∷ 0 ∷ 0 ∷ 0 ∷ 64 ∷ 0 ∷ 0 ∷ 0 ∷ 8 ∷ 0 ∷ 0 ∷ 0 ∷ 8 ∷ 128 ∷ 0 ∷ 16 ∷ 0 ∷ 255 ∷ 244 ∷ 0 ∷ 2 ∷ 0 ∷ 0 ∷ 0 ∷ 0 ∷ 0 ∷ 0 ∷ 2 ∷ 0 ∷ 8 ∷ 0 ∷ 0 ∷ 0 ∷ 0 ∷ 4 ∷ 0 ∷ 0 ∷ 7 ∷ [])
unfolding wrote_of copy_bytes
filled = refl

-- a picture, the bytes of the buffer, sevens, and the number of the answer
pub record Case : Type 0 where
  pub width : ℕ
  pub height : ℕ
  pub fmt : ℕ
  pub siz : ℕ
  pub room : ℕ
  pub number : ℕ

abbrev case : (width height fmt siz room number : ℕ) → Case
case width height fmt siz room number = record { width = width; height = height; fmt = fmt; siz = siz; room = room; number = number }

pub cases : List Case
cases =
    -- 2 before 4 before 11
    case 0 0 5 4 39 2
    ∷ case 0 1 0 4 40 4
    ∷ case 0 1 5 3 40 4
    ∷ case 0 1 0 0 40 11
    ∷ case 1 0 0 0 40 11
    ∷ case 16384 1 0 0 40 11
    -- the highest
    ∷ case 1 16383 0 0 40 0
    ∷ case 1 16384 0 0 40 11
    -- the widest of each size, and one texel more
    ∷ case 8192 1 0 0 40 0
    ∷ case 8193 1 0 0 40 11
    ∷ case 4096 1 4 1 40 0
    ∷ case 4097 1 4 1 40 11
    ∷ case 2048 1 3 2 40 0
    ∷ case 2049 1 3 2 40 11
    -- 32 bits have half of the capacity, and so has the format CI
    ∷ case 1024 1 0 3 40 0
    ∷ case 1025 1 0 3 40 11
    ∷ case 4096 1 2 0 40 0
    ∷ case 4097 1 2 0 40 11
    ∷ case 2048 1 2 1 40 0
    ∷ case 2049 1 2 1 40 11
    ∷ case 1024 1 2 2 40 0
    ∷ case 1025 1 2 2 40 11
    ∷ case 1024 1 2 3 40 0
    ∷ case 1025 1 2 3 40 11
    ∷ []

-- the answer's number; and the buffer is as it was, unless an object was written
unfoldable pub answers : Case → Bool
unfolding wrote_of copy_bytes same
answers c =
    let out = replicate c.room 7 in
    let r = wrote_of c.width c.height c.fmt c.siz 0 out in
    eqb (written_number r.answer) c.number && (eqb c.number 0 || same r.out out)

unfoldable pub all_answer : List Case → Bool
unfolding answers
all_answer [] = true
all_answer (c ∷ cs) = answers c && all_answer cs

pub cases_answer : T (all_answer cases)
unfolding all_answer cases
cases_answer = tt
