pub mod Blocks
pub mod Labelled
