pub mod CallUnit
pub mod Units
