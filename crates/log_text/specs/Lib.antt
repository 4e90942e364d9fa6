pub mod Writes
pub mod Pieces
pub mod Callers
pub mod PieceLaws
pub mod FirstWords
pub mod ReadWords
pub mod ReadEvents
pub mod ReadLogs
