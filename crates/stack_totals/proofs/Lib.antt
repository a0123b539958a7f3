pub mod Totals
pub mod Within
