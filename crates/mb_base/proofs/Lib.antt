pub mod Spans
pub mod Fits
pub mod Widths
pub mod AxisFolds
pub mod Stored
