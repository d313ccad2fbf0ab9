pub mod Stacks
pub mod Frames
pub mod Codes
pub mod Laws
