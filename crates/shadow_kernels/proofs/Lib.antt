pub mod Values
pub mod Branches
pub mod Steps
pub mod Decisions
