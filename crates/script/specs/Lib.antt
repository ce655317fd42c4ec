pub mod Answering
pub mod Forms
pub mod Grammar
pub mod Spelled
