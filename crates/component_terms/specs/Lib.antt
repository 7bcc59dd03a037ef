pub mod Components
pub mod Counts
pub mod Laws
