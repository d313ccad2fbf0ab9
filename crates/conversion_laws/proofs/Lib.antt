pub mod Visits
pub mod Firsts
pub mod Roots
pub mod Plain
pub mod Widths
pub mod Shapes
pub mod Defaults
pub mod Shaped
