-- The bank and an end as words for hosts; where the entries stand that leave the bank.
pub mod Host
pub mod Over
pub mod Placed
pub mod Places
