pub mod Around
pub mod Additions
pub mod Sketches
