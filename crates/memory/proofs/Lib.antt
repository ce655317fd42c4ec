mod Copies
mod Presence
