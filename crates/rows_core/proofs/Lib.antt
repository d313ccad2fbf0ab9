pub mod CallUnitLemmas
pub mod UnitLemmas
