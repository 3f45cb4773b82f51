-- What a planner has still to come, and what its steps promise.
pub mod Planner
pub mod Coming
