-- The text of a plan, that it can be read, what is written of it, and the text of case L (SPECIFICATION 12.5).
pub mod Text
pub mod Decimal
pub mod Lines
pub mod CaseL
