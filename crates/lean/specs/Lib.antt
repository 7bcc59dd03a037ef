pub mod Grid
pub mod Leans
pub mod Trees
pub mod Vectors
