-- Laws that the functions' proofs cite.
pub mod Eleven
pub mod Movement
