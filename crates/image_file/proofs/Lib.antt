pub mod Bytes
pub mod OneName
pub mod ManyNames
pub mod Rules
pub mod Whole
pub mod Loop
pub mod Laws
