pub mod Along
pub mod Lines
pub mod Segments
pub mod Windings
