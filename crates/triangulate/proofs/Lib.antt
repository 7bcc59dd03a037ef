pub mod Areas
pub mod CutRings
pub mod Rings
