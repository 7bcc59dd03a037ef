pub mod Given
mod Operands
pub mod ReadByClap
pub mod Reading
pub mod Rows
pub mod Sorts
pub mod Turns
pub mod Walks
pub mod Words
