pub mod Keeping
pub mod KeepingInOrder
pub mod Loops
mod Outlined
pub mod Readable
pub mod ReadingBack
pub mod ScriptsReadingBack
pub mod Tasks
mod Tidied
