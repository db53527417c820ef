-- Laws of what is printed, by subject.
pub mod Rows
pub mod Numbering
pub mod Fronts
pub mod Going
pub mod Lengths
pub mod Whole
pub mod Alike
