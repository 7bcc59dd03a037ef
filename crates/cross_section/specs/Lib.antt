pub mod Apart
pub mod Copies
pub mod Extruded
pub mod Order
pub mod Outcome
pub mod Sides
pub mod Small
pub mod Walks
