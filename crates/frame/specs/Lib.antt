pub mod Flaws
pub mod Layout
pub mod Places
