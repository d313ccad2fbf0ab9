pub mod Arrives
pub mod Laws
