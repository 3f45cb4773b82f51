-- Laws of the definitions in specs/.
pub mod Cell
pub mod Left
pub mod Shows
