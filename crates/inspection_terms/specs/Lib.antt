pub mod Cuts
pub mod Inspected
pub mod Triangles
