pub mod Added
pub mod FirstRefusals
pub mod NoTwice
pub mod NotBoth
pub mod Places
pub mod WholeLemmas
