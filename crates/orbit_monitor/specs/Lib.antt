pub mod Answering
pub mod Observed
pub mod Run
pub mod Turn
