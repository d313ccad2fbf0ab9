pub mod Addresses
pub mod LabelPlaces
mod Least
mod Growing
mod Passed
mod Sweeping
mod Directions
mod Emitted
mod Rounds
pub mod Runs
