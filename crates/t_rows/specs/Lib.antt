pub mod Bindings
pub mod Given
pub mod Lists
pub mod Numbers
pub mod Rows
pub mod Templates
