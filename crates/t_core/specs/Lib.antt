pub mod Counts
pub mod Limits
pub mod Nodes
pub mod Smaller
pub mod Whole
