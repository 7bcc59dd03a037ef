pub mod Faces
pub mod Hands
pub mod Heights
pub mod Places
