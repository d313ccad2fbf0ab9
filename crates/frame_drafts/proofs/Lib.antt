pub mod Spreading
