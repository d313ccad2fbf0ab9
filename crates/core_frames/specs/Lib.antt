pub mod Building
pub mod Frames
