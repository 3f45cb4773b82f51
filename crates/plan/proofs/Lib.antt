-- Laws that an edit of a pass would leave without their proof, and of the verdict that a plan stops with.
pub mod Fuel
pub mod Stops
