mod Alike
mod Bounded
mod Hands
mod Wear
