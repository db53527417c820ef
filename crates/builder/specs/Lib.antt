-- What a build answers and leaves.
pub mod Answers
pub mod inner
