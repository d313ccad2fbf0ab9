pub mod Builtins
pub mod Data
pub mod Held
pub mod Lookup
pub mod Names
