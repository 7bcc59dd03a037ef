pub mod Directions
pub mod Entries
pub mod Keys
pub mod Laws
pub mod Pairing
