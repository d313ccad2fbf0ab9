pub mod CallLemmas
pub mod DefinitionLemmas
pub mod MethodLemmas
pub mod SetLemmas
pub mod SortLemmas
