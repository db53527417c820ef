-- What only contracts of inner functions cite: the short ways of the test of two assumptions. No rule speaks of them.
pub mod Opposed
pub mod ShortWays
