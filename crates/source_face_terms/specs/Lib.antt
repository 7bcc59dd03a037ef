pub mod Assembling
pub mod Filled
pub mod Naming
pub mod Planes
pub mod Segments
