pub mod Procedures
pub mod Steps
