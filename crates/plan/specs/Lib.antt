-- The plan of a request as a list of entries and a verdict, and folds over it.
pub mod Request
pub mod Out
pub mod Load
pub mod Copy
pub mod Scaled
pub mod Whole
pub mod Run
pub mod Ties
pub mod Laws
pub mod Steps
pub mod Next
pub mod Sound
pub mod Demand
pub mod Check
pub mod Unit
pub mod Edges
