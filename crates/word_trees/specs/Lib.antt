pub mod Trees
pub mod Cores
pub mod Leads
pub mod Laws
