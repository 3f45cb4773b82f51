-- Texts put at places, columns and rows of them.
pub mod Texts
pub mod Columns
pub mod Rows
