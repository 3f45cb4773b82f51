-- What an entry's eleven words do to a bank's words.
pub mod Applied
