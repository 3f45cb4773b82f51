-- A copy object of a picture: what the writer leaves, its parts, and computed cases.
pub mod Writer
pub mod Parts
pub mod Cases
