-- The Rust's masks and casts as remainders and quotients. D is docs/SPECIFICATION.md.
-- Assumes nothing.
use Rattle.std.specs.Prelude.{cond, ℕ, ◌^◌, ℤ, pos, ◌*ℤ◌}
use Rattle.std.specs.Int.Signed.{le_z}
use Rattle.std.specs.Int.{w16}
use Rattle.std.proofs.Common.{to_z}
use Rattle.signed.specs.Floor.{floor_div, modulo}

-- the smaller of two
abbrev pub min_z : ℤ → ℤ → ℤ
min_z a b = cond (le_z a b) a b

-- D "the masks that clear low bits": z & !(m − 1), for m a power of two
abbrev pub clear_low : ℤ → ℕ → ℤ
clear_low z m = floor_div z m *ℤ pos m

-- D "Casts to 16 bits keep the value modulo 2^16": z as u16
abbrev pub u16 : ℤ → ℕ
u16 z = modulo z (2 ^ 16)

-- the same, read as signed: z as i16
abbrev pub i16 : ℤ → ℤ
i16 z = to_z w16 (modulo z (2 ^ 16))

-- D "signed ones modulo 2^64"
abbrev pub word : ℤ → ℕ
word z = modulo z (2 ^ 64)
