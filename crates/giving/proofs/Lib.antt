-- Laws of the definitions in specs/.
pub mod Over
pub mod Placed
pub mod HostLaws
