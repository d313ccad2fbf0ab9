pub mod Regions
pub mod Reading
pub mod Lines
pub mod All
