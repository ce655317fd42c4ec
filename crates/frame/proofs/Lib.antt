pub mod Judged
pub mod Frames
pub mod Puts
pub mod Readback
pub mod Words
