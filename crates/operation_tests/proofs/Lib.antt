mod Conserved
pub mod Counted
