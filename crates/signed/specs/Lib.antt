-- The integers of the specifications: differences of naturals, division that rounds down, words in two's complement, masks and casts; and bounds of naturals.
pub mod Diff
pub mod Floor
pub mod Word
pub mod Mask
pub mod Cast
pub mod Bound
