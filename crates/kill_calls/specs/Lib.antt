pub mod Kill
pub mod KillLaws
pub mod KillStart
pub mod KillClause
pub mod KillBeside
pub mod KillChecked
pub mod KillTurns
pub mod KillKeeps
