pub mod Key
pub mod Peek
