pub mod Carries
pub mod Arguments
pub mod Jumps
pub mod Laws
