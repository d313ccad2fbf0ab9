pub mod Gathered
pub mod FreeVariables
pub mod LiveLaws
pub mod Needs
