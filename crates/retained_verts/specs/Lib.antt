pub mod Counted
pub mod Faults
pub mod Handed
pub mod Listed
pub mod Parts
pub mod Small
