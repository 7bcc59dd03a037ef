pub mod Doubts
pub mod Neighbours
pub mod Pairs
pub mod Stars
pub mod TidySurface
