pub mod Faces
pub mod Corners
pub mod Pages
pub mod Passing
