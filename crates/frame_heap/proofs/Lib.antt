pub mod Filling
pub mod Held
pub mod Grown
pub mod Closures
pub mod Variables
pub mod Making
