-- The load into tile 7.
pub mod Load
