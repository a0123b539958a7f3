pub mod DealTest
pub mod FreshMade
pub mod Answered
