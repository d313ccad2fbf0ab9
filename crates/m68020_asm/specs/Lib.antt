pub mod Items
pub mod Widths
pub mod Assembled
pub mod Sweep
pub mod Run
