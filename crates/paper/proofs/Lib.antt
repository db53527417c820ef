-- That a build is a run of the source's algorithms: the theorem is in Theorem; and that they return no other record: in
-- Determined. Lines 5 to 18 are in Stepping, Single and Outcomes (and `align`'s Successors), lines 1 to 4 and 22 to 33
-- in Process, Reading, Edges, Seats, Rows and Rounds, lines 19 to 21 in Returning and Alone, Algorithm 1 in Searching, Conditions
-- and Alone.
pub mod Members
pub mod Stepping
pub mod Single
pub mod Outcomes
pub mod Process
pub mod Reading
pub mod Edges
pub mod Seats
pub mod Rows
pub mod Rounds
pub mod Searching
pub mod Returning
pub mod Conditions
pub mod Alone
pub mod Lengths
pub mod Theorem
pub mod Determined
