pub mod Placed
pub mod Kinds
pub mod Terminals
pub mod Shown
