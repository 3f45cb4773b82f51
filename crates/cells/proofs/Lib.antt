-- Laws of the definitions in specs/.
pub mod Places
pub mod Given
pub mod Cover
pub mod Once
pub mod Loads
pub mod Course
pub mod Fits
pub mod Finished
pub mod Every
pub mod Shown
pub mod Texels
