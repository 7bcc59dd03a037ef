pub mod Assembled
pub mod Cancelling
mod Counted
pub mod Distinct
pub mod FaceLists
mod Few
pub mod Fillings
pub mod LongLoops
pub mod Loops
pub mod Named
pub mod OneToOne
pub mod OtherSide
mod Parts
pub mod Returning
pub mod Reversal
mod Rows
pub mod Standing
mod Together
