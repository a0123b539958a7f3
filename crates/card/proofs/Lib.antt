pub mod Suits
pub mod Bytes
pub mod OnCards
pub mod Gathering
