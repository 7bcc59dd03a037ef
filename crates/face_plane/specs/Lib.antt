pub mod Keeping
pub mod Planes
pub mod Rings
