pub mod Rounds
pub mod Written
