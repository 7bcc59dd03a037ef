pub mod Known
pub mod MadeMeshes
pub mod Naming
mod Operated
mod OutlineStages
pub mod Progress
pub mod Reading
mod RemeshStages
pub mod Stages
pub mod Steps
mod WritesBack
