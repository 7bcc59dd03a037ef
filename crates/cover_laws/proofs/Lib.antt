pub mod Passing
pub mod Triangles
