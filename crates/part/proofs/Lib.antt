mod Blind
pub mod Stretches
mod Histories
mod Sounds
pub mod Twins
