-- The parts of the first strip that one function computes, and their laws.
pub mod First
pub mod FirstLaw
pub mod Near
