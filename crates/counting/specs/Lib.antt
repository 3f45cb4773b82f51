-- What the count of a copy plan computes with.
pub mod Count
