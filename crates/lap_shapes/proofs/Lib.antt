pub mod Rows
pub mod OpRows
pub mod EndRows
pub mod Chunks
pub mod Assembled
pub mod Sizes
pub mod Bytes
