pub mod Runs
pub mod Goes
pub mod Services
pub mod Steps
