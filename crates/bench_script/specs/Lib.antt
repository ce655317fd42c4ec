pub mod Forms
pub mod Grammar
pub mod Saying
pub mod Spelled
