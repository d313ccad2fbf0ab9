pub mod DatumLemmas
pub mod SumLemmas
