-- What the count of a copy plan's end asks of a strip: where it starts in the image, and whether its load is refused. D is docs/SPECIFICATION.md.
-- Assumes nothing.
use Rattle.std.specs.Prelude.{Bool, not, cond, ℕ, ◌+◌, ◌-◌}
use Rattle.load_tile.specs.Load.{words_in, bytes_of, offset_at, length_of, granted}
use Rattle.plan.specs.declared.types.Copy.{Copy}
use Rattle.plan.specs.declared.types.Strip.{Strip}

-- R 476–481: the image column where a strip starts after another, the first, or the last if the frame is flipped
abbrev pub wrap_column : Copy → ℕ
wrap_column c = cond c.flip (c.image_width - 1) 0

-- D verdict 9 "a request is given only if start plus length stays within 2^64 − 1": whether the load of a strip from image row sy is refused, where no bound is cut to 16 bits
abbrev pub refused_at : Copy → Strip → (sy height : ℕ) → Bool
refused_at c s sy height =
    let row = bytes_of c.siz c.image_width in
    not (granted (c.address + offset_at c.siz row s.aligned_left sy) (length_of height row (words_in c.siz (s.load_width - 1))))
