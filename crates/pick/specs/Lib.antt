-- What the program reads (Both): what it prints stands in the crate report.
pub mod Both
pub mod inner
