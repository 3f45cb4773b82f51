-- Demands 2 and 3 of any list of steps from a fresh planner, and of a whole run; and what is claimed of such steps of a picture's object, and of any finished copy plan.
pub mod Steps
pub mod Calls
pub mod Stepped
pub mod Loads
pub mod Applied
pub mod Columns
pub mod Measured
pub mod Early
pub mod Pictures
pub mod Cells
