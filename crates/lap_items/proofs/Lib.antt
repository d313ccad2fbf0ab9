pub mod Numbers
pub mod Parallel
pub mod Distinct
