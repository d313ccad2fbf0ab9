pub mod Rounds
pub mod Values
pub mod Walk
pub mod Members
pub mod Names
pub mod Alike
