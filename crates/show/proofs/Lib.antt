-- Lines that follow one another.
pub mod Going
