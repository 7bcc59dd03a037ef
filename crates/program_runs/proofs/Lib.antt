pub mod Counting
pub mod Ends
pub mod Faults
pub mod Halts
mod Promised
pub mod Running
pub mod Stages
pub mod WritesBack
