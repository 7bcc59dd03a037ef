pub mod Extrusion
pub mod Laws
pub mod Outlines
