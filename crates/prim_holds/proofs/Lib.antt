pub mod Keeping
pub mod Arguments
pub mod Prims
