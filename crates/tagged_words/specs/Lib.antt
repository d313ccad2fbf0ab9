pub mod Tags
pub mod FixnumLaws
pub mod CharLaws
