pub mod Then
pub mod Headers
