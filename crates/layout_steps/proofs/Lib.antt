pub mod Preparing
pub mod Handing
pub mod Laying
pub mod Methods
