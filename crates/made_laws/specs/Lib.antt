pub mod Laws
pub mod Solids
