-- Demand 3's numbers of a plan, and what measures them.
pub mod Ruler
pub mod Place
pub mod Drifts
