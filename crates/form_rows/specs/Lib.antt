pub mod Definitions
pub mod Meant
pub mod Methods
pub mod Sorts
