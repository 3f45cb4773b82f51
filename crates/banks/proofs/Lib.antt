-- A bank as words and out of words.
pub mod Banks
