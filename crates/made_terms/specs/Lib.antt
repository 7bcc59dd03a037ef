pub mod Lattice
pub mod Making
pub mod Motions
pub mod Refusals
pub mod Solids
