pub mod Represents
pub mod Goes
pub mod Laws
