pub mod Boxes
pub mod Counts
pub mod Sharing
pub mod Signs
pub mod Uses
