-- The laws of what a run, steps, and both mixed leave.
pub mod Outcomes
pub mod Stepping
