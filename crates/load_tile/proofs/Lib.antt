-- Laws that belong to no one function.
pub mod Shift
