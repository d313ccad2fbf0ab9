mod Walked
mod Past
