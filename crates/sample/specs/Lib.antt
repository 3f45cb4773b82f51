-- What one cell of a copy background shows: the engine, its words, and what a plan shows at the cell.
pub mod Engine
pub mod Cell
pub mod Host
pub mod Shows
pub mod Cases
