pub mod Below
pub mod MarkedThere
