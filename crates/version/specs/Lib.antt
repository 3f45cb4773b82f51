-- A version as a number.
pub mod Version
