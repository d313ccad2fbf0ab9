pub mod Listing
mod Spots
mod Steps
mod Own
mod Bodies
mod Blocks
mod Groups
mod Lets
mod Labels
pub mod Roots
mod Falling
mod Firsts
