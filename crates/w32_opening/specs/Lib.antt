pub mod ScriptCopies
pub mod Rows
pub mod Opened
