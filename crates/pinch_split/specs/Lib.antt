pub mod Back
pub mod Given
pub mod Split
