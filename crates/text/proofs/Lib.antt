pub mod Added
pub mod Asking
pub mod Cuts
pub mod Numbers
pub mod Plain
pub mod Separated
pub mod Spelled
