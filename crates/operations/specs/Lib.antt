-- The definitions that the contracts of the crate cite: read Operations first, then Values, Assumptions, Answers.
-- Trials computes what Assumptions says; `inner` is for contracts of inner functions alone.
pub mod Operations
pub mod Values
pub mod Assumptions
pub mod Trials
pub mod Answers
pub mod inner
