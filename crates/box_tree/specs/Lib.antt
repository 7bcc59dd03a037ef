pub mod Coarse
pub mod Extents
pub mod Keys
pub mod Nodes
pub mod Touching
pub mod Walks
