pub mod Walking
pub mod Rising
pub mod Fetching
pub mod Finishing
pub mod Labelling
pub mod Owing
