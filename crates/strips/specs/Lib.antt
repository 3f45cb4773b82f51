-- The set-up of a copy plan, and one strip.
pub mod Frame
pub mod Strip
