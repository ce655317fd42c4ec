mod Boths
mod Changes
pub mod Rows
