pub mod Cuts
pub mod Laws
pub mod Left
pub mod Linked
pub mod Placed
pub mod Spans
