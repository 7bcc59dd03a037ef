pub mod Kept
mod Numbers
pub mod Placed
pub mod Five
mod Upright
mod Faced
