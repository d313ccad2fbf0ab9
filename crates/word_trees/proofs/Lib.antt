pub mod Lines
pub mod Operations
pub mod Ends
pub mod Performing
