pub mod Collected
pub mod Locked
