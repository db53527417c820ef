-- The definitions of a record.
pub mod Records
