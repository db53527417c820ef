-- Laws that several proofs cite.
pub mod Searches
pub mod Codes
pub mod Order
pub mod TwoOrders
pub mod Trials
pub mod Exact
pub mod Fewer
pub mod Independent
pub mod Orders
pub mod Opposed
pub mod Meaning
pub mod Arithmetic
pub mod Answers
