pub mod Going
pub mod Operands
