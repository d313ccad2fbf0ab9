pub mod FrameLemmas
pub mod NodeLemmas
