-- Laws of the shared definitions.
pub mod Tests
pub mod Lists
pub mod Options
pub mod Says
pub mod Answers
pub mod Picks
pub mod OnSome
pub mod Fits
pub mod Walks
pub mod Stores
pub mod Ones
pub mod Counts
pub mod Sums
pub mod Repeat
