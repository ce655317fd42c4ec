pub mod Codes
pub mod Fields
pub mod Kinds
pub mod Requests
