pub mod Pieces
pub mod Changes
pub mod Fields
pub mod FieldLaws
pub mod Shown
