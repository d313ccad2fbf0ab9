pub mod Reading
pub mod Given
pub mod Taken
pub mod Services
pub mod Followed
pub mod Scoped
pub mod Deep
pub mod Served
