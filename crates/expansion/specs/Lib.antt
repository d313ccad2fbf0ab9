pub mod Counting
pub mod Lists
pub mod Meaning
pub mod Refusals
pub mod Settling
pub mod Strings
pub mod Trees
pub mod Units
