-- What a plan's end tells of its entries, counted as they are given; laws of an entry's words.
pub mod Counts
pub mod Eleven
