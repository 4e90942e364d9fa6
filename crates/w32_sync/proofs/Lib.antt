pub mod Window
pub mod Pipes
