-- Laws of the definitions in specs/.
pub mod Left
pub mod Accepted
pub mod Bytes
pub mod Passes
pub mod Later
pub mod Taller
