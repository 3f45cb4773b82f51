-- What the program promises of the bytes that it reads and writes.
pub mod Answer
