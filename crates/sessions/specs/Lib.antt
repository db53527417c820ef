-- The worked cases of document 01: what a case says (Cases), and their list (Worked).
pub mod Cases
pub mod Worked
