mod Picking
mod Making
mod Definitions
mod Joining
