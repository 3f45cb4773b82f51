-- Laws of the definitions in specs/.
pub mod Line
pub mod Walk
pub mod First
pub mod Demand3
pub mod Words
pub mod Prefix
pub mod Lines
pub mod Limits
pub mod Idle
