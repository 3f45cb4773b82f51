-- That cutting a host's numbers leaves the plan as it is.
pub mod Cut
