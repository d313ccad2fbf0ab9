pub mod Sums
pub mod Code
pub mod Tasks
pub mod Faithful
pub mod Full
pub mod Faults
