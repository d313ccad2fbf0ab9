pub mod Single
pub mod Things
