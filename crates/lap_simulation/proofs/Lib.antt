pub mod Turning
pub mod Blocks
pub mod Deep
pub mod Lacking
pub mod Left
pub mod Stepping
pub mod Keeping
pub mod Leaving
