-- The tables' rule.
pub mod Table
