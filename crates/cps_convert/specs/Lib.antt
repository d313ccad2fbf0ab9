pub mod Growing
pub mod Claims
pub mod Operands
pub mod Naming
pub mod Kinds
pub mod Forms
pub mod Firsts
