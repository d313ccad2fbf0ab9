pub mod Services
pub mod Depths
pub mod Standing
pub mod Rooms
pub mod Starts
