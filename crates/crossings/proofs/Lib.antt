pub mod Examples
pub mod Nearby
pub mod Numbers
pub mod Order
pub mod Passed
pub mod Rounds
pub mod Rows
mod Tetrahedra
pub mod Totals
