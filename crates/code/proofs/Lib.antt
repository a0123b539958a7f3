pub mod Arranging
pub mod Parts
pub mod Ends
