pub mod Events
pub mod Laws
pub mod Levels
pub mod Parts
pub mod Receiving
pub mod Rows
pub mod Working
