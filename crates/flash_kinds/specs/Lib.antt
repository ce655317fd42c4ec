pub mod CutRows
pub mod Pair
pub mod Sounds
pub mod Tables
pub mod Word
