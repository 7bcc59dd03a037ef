pub mod Components
pub mod Entering
pub mod Growing
pub mod Marks
pub mod Passing
pub mod Reaching
pub mod Spokes
