mod Copies
pub mod Geometric
mod Places
