pub mod Settings
pub mod Related
pub mod Led
