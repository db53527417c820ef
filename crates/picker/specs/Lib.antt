-- The definitions that the contracts cite.
pub mod Numbers
pub mod Lookups
pub mod inner
