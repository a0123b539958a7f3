pub mod Pairs
pub mod Row
pub mod Kings
pub mod Reading
pub mod Turn
