-- A scaled course as words.
pub mod Course
