pub mod Conventions
pub mod Chosen
pub mod Handing
pub mod Ends
