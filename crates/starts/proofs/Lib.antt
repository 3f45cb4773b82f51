-- Laws that stand beside the planner of a request.
pub mod Ways
