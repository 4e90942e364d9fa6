pub mod Owner
pub mod Ends
pub mod Ring
