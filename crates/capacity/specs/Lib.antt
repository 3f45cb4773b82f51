-- What the tables of capacities promise.
pub mod Entry
