pub mod Records
pub mod Globals
pub mod Branches
