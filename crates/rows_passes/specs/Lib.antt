pub mod Sum
pub mod Turns
