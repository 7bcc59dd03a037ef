pub mod Collapse
pub mod Collapsible
pub mod PointTriples
pub mod Tidy
