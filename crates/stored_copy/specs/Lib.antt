-- A copy course as words.
pub mod Course
