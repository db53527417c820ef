-- Algorithm 1 over the buffers.
pub mod Marks
pub mod inner
