-- The load request: words, rows, stride, start and length of a tile's load. D is docs/SPECIFICATION.md, section 6; T is `rdp.rs` 392–415 `load_tile_typed`.
-- Assumes nothing.
use Rattle.std.specs.Prelude.{◌≡◌, Bool, true, false, Option, Some, None, ℕ, ◌+◌, ◌-◌, ◌*◌, ◌/◌, ◌^◌, ◌≤◌, ltb}
use Rattle.load_tile.specs.declared.load.LoadRequest.{LoadRequest}

-- r is x, and at most m
pub record AtMost (x m r : ℕ) : Type 0 where
  pub is : r ≡ x
  pub most : r ≤ m

-- D "words = floor(c / 2^(4 − siz)) + 1"
abbrev pub words_in : (siz c : ℕ) → ℕ
words_in siz c = c / 2 ^ (4 - siz) + 1

-- D "columns c = max(0, lrs − uls)", of bounds divided by 4
abbrev pub words_of : (siz uls lrs : ℕ) → ℕ
words_of siz uls lrs = words_in siz (lrs / 4 - uls / 4)

-- D "rows = 1 + max(0, lrt − ult)"
abbrev pub rows_of : (ult lrt : ℕ) → ℕ
rows_of ult lrt = 1 + (lrt / 4 - ult / 4)

-- the bytes of n texels of a row, half a byte each for siz 0
abbrev pub bytes_of : (siz n : ℕ) → ℕ
bytes_of siz n = n * 2 ^ siz / 2

-- D "stride = floor((image width field + 1) × 2^siz / 2)"
abbrev pub stride_of : (siz width : ℕ) → ℕ
stride_of siz width = bytes_of siz (width + 1)

-- D "floor(uls × 2^siz / 2) + stride × ult": the bytes before a column and a row, and before the tile's first texel
abbrev pub offset_at : (siz stride column row : ℕ) → ℕ
offset_at siz stride column row = bytes_of siz column + stride * row

abbrev pub offset_of : (siz stride uls ult : ℕ) → ℕ
offset_of siz stride uls ult = offset_at siz stride (uls / 4) (ult / 4)

-- D "length = (rows − 1) × stride + 8 × words"
abbrev pub length_of : (rows stride words : ℕ) → ℕ
length_of rows stride words = (rows - 1) * stride + 8 * words

-- D "a request is given only if start plus length stays within 2^64 − 1": whether a load of these bytes is granted
abbrev pub granted : (start length : ℕ) → Bool
granted start length = ltb (start + length) (2 ^ 64)

-- what a load asks for, where it is granted
abbrev pub pick : {A : Type 0} → Bool → A → Option A
pick true a = Some a
pick false a = None

-- D "start = address + .."
unfoldable pub request_of : (siz width address uls ult lrs lrt : ℕ) → Option LoadRequest
request_of siz width address uls ult lrs lrt =
    let words = words_of siz uls lrs in
    let rows = rows_of ult lrt in
    let stride = stride_of siz width in
    let start = address + offset_of siz stride uls ult in
    let length = length_of rows stride words in
    pick (granted start length) (record { words = words; rows = rows; stride = stride; start = start; length = length })

-- the rows that a request asks for
abbrev pub rows_in_request : Option LoadRequest → ℕ
rows_in_request (Some r) = r.rows
rows_in_request None = 0
