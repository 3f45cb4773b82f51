-- The laws of strips, of ranges, and of what measures a request's plan.
pub mod Strips
pub mod Ranges
pub mod Known
pub mod Rects
