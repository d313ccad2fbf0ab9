pub mod Owed
pub mod Plain
pub mod Shapes
