-- Laws of the definitions in specs/.
pub mod Passed
