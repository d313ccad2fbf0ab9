pub mod Passing
pub mod Statics
pub mod Calling
pub mod Entering
pub mod Applying
