pub mod Basics
pub mod Growing
pub mod SmallNeeds
pub mod Adding
