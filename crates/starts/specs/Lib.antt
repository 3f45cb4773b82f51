-- Where a plan starts, mode by mode.
pub mod Start
