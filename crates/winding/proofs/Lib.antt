pub mod Between
pub mod EdgeSums
pub mod Identity
pub mod Known
pub mod Lines
pub mod Nearby
pub mod Plain
pub mod Steps
mod Rows
