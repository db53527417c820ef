-- Algorithm 2 over the buffers.
pub mod Turns
pub mod inner
