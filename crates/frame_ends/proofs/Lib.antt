pub mod Faces
pub mod Halting
