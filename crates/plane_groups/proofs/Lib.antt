pub mod FrontNormals
pub mod Fronts
pub mod Grouping
pub mod Labelled
pub mod Quotients
pub mod SameKeys
pub mod Views
