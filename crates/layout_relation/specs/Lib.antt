pub mod Links
pub mod Contexts
pub mod Laid
pub mod Related
pub mod Laws
pub mod Examples
