pub mod Cards
pub mod Methods
pub mod Constants
