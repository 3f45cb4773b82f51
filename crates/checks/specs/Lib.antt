-- The checks of a request, and what is known of one that passed.
pub mod Check
pub mod Ties
pub mod Known
