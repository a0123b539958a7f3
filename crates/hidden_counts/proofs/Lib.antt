pub mod Head
pub mod AllUp
pub mod Counted
