pub mod Named
pub mod Sized
pub mod Writes
pub mod Taken
