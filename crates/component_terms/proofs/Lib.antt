pub mod Counted
mod Examples
pub mod Joined
pub mod Labels
