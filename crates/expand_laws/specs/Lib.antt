pub mod Cores
pub mod Ends
pub mod Renaming
pub mod SameCounts
