pub mod Faults
pub mod Halts
pub mod Pieces
pub mod ReadPieces
pub mod Reads
pub mod Reasons
pub mod Sizes
