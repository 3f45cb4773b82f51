-- What a run promises: what it has written so far and what is still to come.
pub mod Ran
