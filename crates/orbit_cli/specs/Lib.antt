pub mod Answer
pub mod Changes
pub mod Command
pub mod Lines
pub mod Outcome
pub mod Parts
pub mod Statuses
pub mod Words
