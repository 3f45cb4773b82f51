-- The load request.
pub mod Load
pub mod Rows
