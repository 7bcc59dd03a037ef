pub mod Alone
pub mod Needless
pub mod Ordered
pub mod Placed
pub mod Sorting
pub mod Standing
pub mod Twice
pub mod Views
