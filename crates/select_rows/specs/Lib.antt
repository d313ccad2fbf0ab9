pub mod Macros
pub mod Kept
pub mod Codes
pub mod CheckLaws
