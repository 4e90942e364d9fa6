pub mod Driving
pub mod DrivenTurns
