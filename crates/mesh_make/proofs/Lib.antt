pub mod GridRows
pub mod Refusing
