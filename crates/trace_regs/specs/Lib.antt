pub mod Homes
pub mod Assignment
pub mod Promises
