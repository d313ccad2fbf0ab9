pub mod Segments
pub mod Sizes
pub mod Reading
pub mod Values
pub mod Texts
pub mod Growing
pub mod Identity
pub mod Changing
