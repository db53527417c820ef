-- Laws of the sets that are read and of the aligned step.
pub mod ReadSets
pub mod Agree
pub mod Onto
pub mod Seek
pub mod Unmatched
pub mod Steps
pub mod Successors
pub mod NewTable
pub mod Moves
pub mod Enough
pub mod Cases
