mod Dropping
mod Numbered
pub mod ReadingBack
mod Welded
