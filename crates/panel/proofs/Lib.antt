pub mod OneOutcome
pub mod RefusedKeeps
