pub mod FanLists
pub mod FanNumbers
pub mod Labels
pub mod Reduced
pub mod SplitMesh
