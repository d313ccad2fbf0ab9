pub mod LocativeLemmas
pub mod ProcedureLemmas
pub mod StepLemmas
