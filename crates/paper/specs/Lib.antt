-- The source's two algorithms line by line, and what it means that a record is what they return. Read them in this
-- order.
pub mod Nodes
pub mod Lines5to18
pub mod Algorithm2
pub mod Algorithm1
pub mod Returned
