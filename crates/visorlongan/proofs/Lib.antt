-- The laws of what the exported functions leave.
pub mod Left
pub mod Laws
