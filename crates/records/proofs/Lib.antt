-- Laws of marks, and of what a reader takes for a target.
pub mod Marks
pub mod Reading
