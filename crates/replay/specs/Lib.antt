-- What the run of a record and its steps leave.
pub mod Outcome
pub mod Steps
pub mod Passed
