-- A planner as words.
pub mod Stored
