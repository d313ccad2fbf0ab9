pub mod SumLemmas
pub mod TurnLemmas
