pub mod Lattices
pub mod Mirrors
pub mod Motions
pub mod Points
pub mod Solids
pub mod SolidTests
pub mod Unions
