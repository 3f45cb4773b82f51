-- The strips of a copy plan as a list of places, what is claimed of them, and of the cells that their rectangles meet and show.
pub mod Places
pub mod Given
pub mod Met
pub mod Shown
pub mod Course
