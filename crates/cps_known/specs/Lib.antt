pub mod LiveVariables
pub mod KnownMarks
pub mod Binders
