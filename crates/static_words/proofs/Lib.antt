pub mod Packing
pub mod Methods
pub mod Written
