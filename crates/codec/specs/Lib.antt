pub mod Reading
pub mod Verdict
pub mod Writing
