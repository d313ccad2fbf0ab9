pub mod Filling
pub mod Kept
pub mod Pushed
pub mod Pushing
