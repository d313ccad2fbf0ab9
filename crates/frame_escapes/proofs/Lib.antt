pub mod Data
pub mod Frames
pub mod Left
pub mod Closing
pub mod Killing
pub mod Calling
pub mod Counting
