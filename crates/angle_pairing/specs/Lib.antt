pub mod Gathered
pub mod Labels
pub mod Numbers
pub mod Seats
