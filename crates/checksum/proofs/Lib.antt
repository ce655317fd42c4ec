pub mod Bounds
pub mod Linear
pub mod Laws
pub mod Chunks
