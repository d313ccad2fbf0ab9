pub mod MarkLemmas
pub mod Pairs
pub mod Writing
pub mod Shapes
