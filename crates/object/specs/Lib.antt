-- The object: its fields in the bytes, and their laws.
pub mod Layout
pub mod Reads
