pub mod Made
pub mod Undone
