-- Laws of the definitions in specs/.
pub mod Drift
pub mod Early
pub mod EarlyRun
pub mod Steps
pub mod Calls
pub mod Stepped
pub mod Applied
pub mod Loads
pub mod Pictures
pub mod Cells
