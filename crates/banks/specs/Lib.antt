-- Entries that leave a bank whose numbers fit their fields.
pub mod Narrows
