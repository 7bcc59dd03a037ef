pub mod Nearest
pub mod Floor
pub mod Shares
pub mod Lawful
pub mod Ends
