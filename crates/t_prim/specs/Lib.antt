pub mod Atoms
pub mod Identity
pub mod Kinds
pub mod Operands
pub mod SharedParts
pub mod Table
pub mod Values
