pub mod Paths
pub mod Housed
