-- Laws of what the program reads.
pub mod Reading
