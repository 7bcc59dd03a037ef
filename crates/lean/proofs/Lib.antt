pub mod Apart
pub mod Corners
pub mod GridBoxes
pub mod Normals
pub mod Rows
pub mod Triangles
