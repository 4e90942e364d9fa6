pub mod Worker
pub mod WorkerLaws
pub mod Counted
