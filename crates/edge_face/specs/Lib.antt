pub mod Crossings
pub mod CrossingLaws
pub mod Parts
pub mod Settled
pub mod Boundaries
pub mod Sides
pub mod Laws
pub mod Pairs
