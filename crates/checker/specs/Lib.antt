-- The definitions that the contract of the check cites: read those of `records` first, then Rules, Checks,
-- Following and Promise.
pub mod Rules
pub mod Checks
pub mod Following
pub mod Promise
pub mod inner
