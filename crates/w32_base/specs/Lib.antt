pub mod Short
pub mod ShortLaws
pub mod Name
pub mod Names
pub mod Setup
pub mod Targets
pub mod Part
