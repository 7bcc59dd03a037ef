pub mod Areas
pub mod FullEdges
pub mod Hands
pub mod Reading
pub mod Spans
