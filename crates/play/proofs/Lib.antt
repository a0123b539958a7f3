pub mod Sight
pub mod Known
pub mod Taken
pub mod EachKind
pub mod Ways
pub mod Same
pub mod Answered
