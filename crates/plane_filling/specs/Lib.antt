pub mod Begun
pub mod Cuttings
pub mod Pieces
pub mod Regions
pub mod Rounds
pub mod Ways
