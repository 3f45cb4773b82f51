-- The walk from pass to pass, and how long it goes on.
pub mod Rounds
pub mod Going
