-- Laws that several proofs cite.
pub mod Rows
pub mod Chosen
pub mod Faults
pub mod Faultless
pub mod Conflicts
pub mod Taken
pub mod Parts
pub mod Reach
pub mod Bounds
pub mod Starts
pub mod Words
pub mod Found
pub mod Told
pub mod Takable
pub mod Possible
