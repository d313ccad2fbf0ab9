pub mod Driving
pub mod Expanding
pub mod Growth
pub mod Outcome
pub mod Quoting
pub mod Rooted
pub mod SoFar
pub mod Tallies
