pub mod Cursor
pub mod Digits
pub mod Grammar
pub mod Lines
pub mod Making
pub mod Texts
