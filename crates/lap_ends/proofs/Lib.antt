pub mod Comparing
pub mod Tests
pub mod Codes
