pub mod Selected
pub mod Emitted
pub mod Chained
