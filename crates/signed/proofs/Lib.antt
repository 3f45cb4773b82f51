-- Laws of the library's functions as the definitions have them.
pub mod Least
