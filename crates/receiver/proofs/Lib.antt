mod Frames
mod Stored
