pub mod Operands
pub mod Entries
