pub mod Bindings
pub mod Indexing
pub mod Keeping
pub mod Lists
pub mod Loads
pub mod NewCells
