pub mod Rounds
pub mod Cursors
