-- A version as a number that grows with it. D is docs/SPECIFICATION.md, section 2.
-- Assumes nothing.
use Rattle.std.specs.Prelude.{ℕ, ◌+◌, ◌*◌}

abbrev pub version_of : (major minor patch : ℕ) → ℕ
version_of major minor patch = major * 65536 + minor * 256 + patch
