pub mod Codes
pub mod Selections
