pub mod Circles
pub mod Fanned
pub mod Laws
pub mod Pairs
