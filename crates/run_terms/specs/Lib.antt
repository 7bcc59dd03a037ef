pub mod Files
pub mod Meets
pub mod Runs
pub mod Tasks
