pub mod Blocks
pub mod Apart
