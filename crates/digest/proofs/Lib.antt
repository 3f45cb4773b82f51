-- A word by its bytes.
pub mod Steps
