-- What each stage of a scaled plan gives.
pub mod Given
