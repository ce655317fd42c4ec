pub mod Hands
pub mod Twins
