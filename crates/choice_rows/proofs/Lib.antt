pub mod CaseLemmas
pub mod CondLemmas
pub mod OrLemmas
