-- What the exported functions leave to the host.
pub mod Host
