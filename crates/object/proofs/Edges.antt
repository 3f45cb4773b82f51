-- An edge that a scissor holds reads back as the number that it is: 32 bits hold it.
-- Assumes nothing.
use Rattle.std.proofs.Common.{◌≡◌, ◌∙◌, ◌<◌, ◌^◌, ℤ, to_z, of_z, to_z-of_z}
use Rattle.std.specs.Int.{w32}
use lib.Signed.{mag}

pub edge_is : {z e : ℤ} → mag z < 2 ^ 31 → z ≡ e → to_z w32 (of_z w32 z) ≡ e
edge_is h i = to_z-of_z {w = w32} (record { sfits = h }) ∙ i
