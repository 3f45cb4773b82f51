-- What a place of a scaled plan's walk has still to come, when it is sound, and the laws of its loads.
pub mod Coming
pub mod Comes
pub mod Sound
pub mod Sums
pub mod Loads
pub mod Kept
pub mod Enter
