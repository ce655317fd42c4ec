pub mod AnswerBuffers
pub mod Answers
pub mod Faults
pub mod Loaders
pub mod Progresses
pub mod Runs
