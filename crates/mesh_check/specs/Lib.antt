pub mod Cancelling
pub mod Opposites
pub mod Orientations
pub mod Reduced
