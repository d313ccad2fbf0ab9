pub mod Conversion
pub mod Law
pub mod Examples
