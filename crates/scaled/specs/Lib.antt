-- The set-up of scaled plans: ranges, and the parts of the plan's definitions that one function computes.
pub mod Number
pub mod Range
pub mod Clip
pub mod ClipLaw
pub mod Strip
pub mod StartLaw
pub mod StripLaw
