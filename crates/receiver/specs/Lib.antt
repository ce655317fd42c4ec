pub mod BoundedTasks
pub mod Receivers
pub mod States
pub mod Stores
pub mod Tasks
