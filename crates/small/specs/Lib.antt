-- The numbers of plans are small, and their entries few.
pub mod Small
pub mod SmallPlans
