pub mod Shapely
pub mod Seen
pub mod Scopes
pub mod OwnArms
