pub mod FirstLams
pub mod Parts
