pub mod Starter
pub mod StarterLaws
pub mod StarterClause
pub mod StarterBeside
pub mod StarterTurns
pub mod StarterReads
pub mod StarterKeeps
