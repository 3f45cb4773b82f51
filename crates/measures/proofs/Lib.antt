-- A law of the order of widths.
pub mod Least
