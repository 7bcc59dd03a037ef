pub mod Forests
pub mod Walks
