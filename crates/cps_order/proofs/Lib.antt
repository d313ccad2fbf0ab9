mod Names
pub mod Reached
mod Marks
