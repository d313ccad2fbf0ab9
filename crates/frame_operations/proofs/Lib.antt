pub mod Passing
pub mod Methods
pub mod Looking
