pub mod Free
pub mod Opened
pub mod Sums
pub mod Params
pub mod Weigh
pub mod Trees
pub mod Forms
