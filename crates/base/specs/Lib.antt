-- The definitions that every layer shares.
pub mod Answers
pub mod Chains
pub mod Lists
pub mod Options
pub mod Tests
pub mod Says
pub mod Reasons
pub mod Refusals
pub mod Walks
pub mod Repeat
pub mod inner
