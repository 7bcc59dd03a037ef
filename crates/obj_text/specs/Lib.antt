pub mod Groups
pub mod Items
pub mod Lines
pub mod Plain
