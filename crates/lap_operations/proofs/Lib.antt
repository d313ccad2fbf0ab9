pub mod Coming
pub mod Quiet
pub mod Lines
