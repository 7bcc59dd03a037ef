pub mod Boxes
pub mod Faults
pub mod Labels
pub mod Op
