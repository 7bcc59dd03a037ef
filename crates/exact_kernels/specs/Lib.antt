pub mod Exact
pub mod Marks
pub mod Placing
pub mod ExactRule
pub mod Vectors
pub mod Units
