-- What the set-up gives, and the plan of a scaled background by it.
pub mod Laws
