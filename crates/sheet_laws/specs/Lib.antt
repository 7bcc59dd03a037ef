pub mod Lines
pub mod Planes
pub mod Promises
