pub mod Passing
mod Written
pub mod LabelledFaces
