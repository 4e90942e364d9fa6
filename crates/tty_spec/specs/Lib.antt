pub mod Terminal
pub mod Discipline
pub mod TerminalLaws
pub mod TerminalCases
