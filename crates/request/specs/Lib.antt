-- A request out of a case's bytes and out of a host's words.
pub mod Stored
pub mod Host
