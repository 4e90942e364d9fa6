pub mod Numbering
pub mod Staged
pub mod TrialLaws
pub mod Trials
pub mod Typing
