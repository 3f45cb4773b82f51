-- The three measures, and ranges of signed numbers.
pub mod Measure
pub mod Range
