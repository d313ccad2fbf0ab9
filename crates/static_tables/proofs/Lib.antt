pub mod TableLemmas
pub mod Same
pub mod AddLemmas
pub mod Closing
