pub mod OwnTurns
pub mod OwnTurnsLaws
