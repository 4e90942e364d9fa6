pub mod Judged
pub mod JudgedLaws
pub mod Judging
pub mod Parts
pub mod OneJudgement
