pub mod Circles
pub mod Located
pub mod Turning
