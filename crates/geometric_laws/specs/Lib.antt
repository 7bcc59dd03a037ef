pub mod Geometric
pub mod Laws
pub mod Outcomes
