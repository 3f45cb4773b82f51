-- The walk of a copy plan, and what it has to do with the plan as a list.
pub mod Walk
pub mod Coming
pub mod Kept
pub mod Small
