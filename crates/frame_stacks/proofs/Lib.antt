pub mod Reading
pub mod Gets
pub mod Blocks
pub mod Pops
pub mod Pushes
pub mod Raising
