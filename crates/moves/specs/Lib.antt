pub mod Each
pub mod Kind
