pub mod Cases
pub mod Ors
