-- The parts of a scaled plan's set-up.
pub mod Parts
