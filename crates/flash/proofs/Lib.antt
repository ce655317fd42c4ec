pub mod Overwrites
pub mod Lawful
pub mod RangeSteps
