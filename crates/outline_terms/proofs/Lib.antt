pub mod Edges
pub mod Extruding
pub mod Once
pub mod Returning
pub mod Rounds
pub mod SolidExtrusion
pub mod Standing
pub mod Volume
